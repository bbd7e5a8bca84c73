-- The rules on jobs of the lines so far, and of lines more that are no job's steps.
use Rattle.std.proofs.Common.{◌≡◌, ℕ, ◌||◌, ◌&&◌, not, Bool, true, false, if◌then◌else◌, List, [], ◌∷◌, ◌++◌, refl, ap, sym, ◌∙◌, subst, append_assoc, append-nil}
use Rattle.std.specs.Prelude.{fold, Option, Some, None, IfSome, IsSomeAnd, codes}
use Rattle.std.specs.Str.{bytes_eq}
use Rattle.std.specs.List.{AllByRecursion, list_any}
use Rattle.std.proofs.lemmas.List.{reverse-append}
use Rattle.std.proofs.lemmas.List.Sums.{fold-append}
use Rattle.std.proofs.lemmas.Slice.Eq.{bytes_eq-Decides}
use Rattle.blk_base.specs.Options.{Options}
use Rattle.blk_base.specs.declared.moves.BackMover.TheVariants as back
use Rattle.blk_base.specs.declared.moves.Mover.TheVariants as mover
use Rattle.blk_base.specs.declared.moves.Move.TheVariants as moves
use Rattle.segment_list.specs.declared.verdict.DiskInfo.{DiskInfo}
use Rattle.schedule_text.specs.declared.line.Line.{Line}
use Rattle.schedule_text.specs.declared.line.Line.TheVariants as lines
use Rattle.report_rules.specs.Obeys.{Obeys}
use Rattle.report_rules.specs.Standing.{is_epoch, this_epoch}
use Rattle.report_rules.specs.Job.{is_job}
use Rattle.report_rules.specs.declared.published.Keeping.{Keeping}
use Rattle.report_rules.specs.Published.{info_of, no_disk, info_told, kept_by, is_one, says_one, keeping_after, is_kept, is_persistent}
use Rattle.report_rules.specs.Step.{stepper}
use Rattle.report_rules.specs.Steps.{is_fault, IsStepAt}
use Rattle.report_rules.specs.Data.{words_in, IsDataAt}
use Rattle.report_rules.specs.Effect.{disk_move_of, disk_move_shown, outcome_of, IsEffectAt}
use Rattle.report_rules.proofs.Obeys.{obeys_more}
use Rattle.split_model.specs.Keys.{names_persistent, is_zero_text}
use Rattle.ring_laws.proofs.JobLines.{is_of, IsAside}
use Rattle.ring_laws.proofs.EntryWords.{epoch_longer}

-- the rules on steps, data and effects
pub record IsRule (before : List Line) (line : Line) : Type 0 where
  pub step : IsStepAt before line
  pub moved : IsDataAt before line
  pub effect : IsEffectAt before line

-- the back offered no persistent grants
abbrev pub OffersNone : Keeping → Type 0
OffersNone s = s.offered ≡ false

abbrev pub KeepsNone : Line → Type 0
KeepsNone line = (s : Keeping) → OffersNone s → OffersNone (keeping_after s line)

-- the lines obey them; grants are not persistent, and the options are those of the run
pub record Tale (config : Options) (before : List Line) : Type 0 where
  pub obeys : Obeys IsRule before
  pub keeping : OffersNone (fold keeping_after (kept_by false false) (this_epoch before))
  pub told : fold info_told no_disk before ≡ info_of config

pub shown_last : (before : List Line) (line : Line) → disk_move_shown (before ++ line ∷ []) ≡ disk_move_of line
shown_last before line = rw (reverse-append before (line ∷ [])) refl

pub tale_more : (config : Options) (before : List Line) (line : Line) → Tale config before → is_epoch line ≡ false → KeepsNone line → info_told (info_of config) line ≡ info_of config → IsRule before line → Tale config (before ++ line ∷ [])
tale_more config before line t same keeps tells rule = record {
  obeys = obeys_more IsRule before line t.obeys rule;
  keeping = subst OffersNone (sym (ap (λ (ls : List Line). fold keeping_after (kept_by false false) ls) (epoch_longer before line same) ∙ fold-append keeping_after (kept_by false false) (this_epoch before) (line ∷ [])))
      (keeps (fold keeping_after (kept_by false false) (this_epoch before)) t.keeping);
  told = fold-append info_told no_disk before (line ∷ []) ∙ (ap (λ (i : DiskInfo). info_told i line) t.told ∙ tells);
}

pub not_persistent : (config : Options) (before : List Line) → Tale config before → is_persistent before ≡ false
not_persistent config before t = none_kept (fold keeping_after (kept_by false false) (this_epoch before)) t.keeping
  where
    none_kept : (s : Keeping) → OffersNone s → is_kept s ≡ false
    none_kept s none = ap (λ (b : Bool). b && s.asked) none

-- a key that the back sets offers no persistent grants
abbrev pub offers_no_grants : (path text : List ℕ) → Bool
offers_no_grants path text = not (names_persistent path) || is_zero_text text

zero_not_one : (text : List ℕ) → is_zero_text text ≡ true → is_one text ≡ false
zero_not_one text e = ap is_one ((bytes_eq-Decides text (codes "0")).0 e)

-- a line that says nothing of epochs, options or effects, and in which the back offers no persistent grants
abbrev pub is_plain : Line → Bool
is_plain (lines.Begin config detail) = false
is_plain lines.Epoch = false
is_plain (lines.Effect id index) = false
is_plain (lines.EffectRead id index words) = false
is_plain (lines.Flushed id) = false
is_plain (lines.Trimmed id) = false
is_plain (lines.Fault id index) = false
is_plain (lines.Move (moves.SetKey mover.Back path text)) = offers_no_grants path text
is_plain line = true

pub plain_epoch : (line : Line) → is_plain line ≡ true → is_epoch line ≡ false
plain_epoch lines.Epoch e = absurd (cc)
plain_epoch line e = refl

pub plain_keeps : (line : Line) → is_plain line ≡ true → KeepsNone line
plain_keeps (lines.Move (moves.GetKey mover.Back path text)) e s none = by_path (bytes_eq path (codes "/local/domain/1/device/vbd/51712/feature-persistent"))
  where
    by_path : (b : Bool) → OffersNone (if b then kept_by s.offered (says_one text) else s)
    by_path true = none
    by_path false = none
plain_keeps (lines.Move (moves.SetKey mover.Back path text)) e s none = by_path (names_persistent path) e
  where
    by_path : (b : Bool) → (not b || is_zero_text text) ≡ true → OffersNone (if b then kept_by (is_one text) s.asked else s)
    by_path true e = zero_not_one text e
    by_path false e = none
plain_keeps line e s none = none

pub plain_tells : (info : DiskInfo) (line : Line) → is_plain line ≡ true → info_told info line ≡ info
plain_tells info (lines.Begin config detail) e = absurd (cc)
plain_tells info line e = refl

pub plain_outcome : (line : Line) → is_plain line ≡ true → outcome_of line ≡ None
plain_outcome (lines.Effect id index) e = absurd (cc)
plain_outcome (lines.EffectRead id index words) e = absurd (cc)
plain_outcome (lines.Flushed id) e = absurd (cc)
plain_outcome (lines.Trimmed id) e = absurd (cc)
plain_outcome (lines.Fault id index) e = absurd (cc)
plain_outcome line e = refl

plain_fault : (line : Line) → is_plain line ≡ true → is_fault line ≡ false
plain_fault (lines.Fault id index) e = absurd (cc)
plain_fault line e = refl

plain_words : (line : Line) → is_plain line ≡ true → words_in line ≡ None
plain_words (lines.EffectRead id index words) e = absurd (cc)
plain_words line e = refl

-- a line that begins no epoch, and in which the back sets no key
abbrev pub sets_none : Line → Bool
sets_none lines.Epoch = false
sets_none (lines.Move (moves.SetKey mover.Back path text)) = false
sets_none line = true

-- a plain line that is no step of a job
pub record IsBystander (line : Line) : Type 0 where
  pub plain : is_plain line ≡ true
  pub unstepped : stepper line ≡ None

abbrev pub AreBystanders : List Line → Type 0
AreBystanders ls = AllByRecursion IsBystander ls

pub if_none : {X : Type 0} (P : X → Type 0) {o : Option X} → o ≡ None → IfSome o P
if_none {X} P {o} e = subst (λ (x : Option X). IfSome x P) (sym e) tt

pub if_some : {X : Type 0} (P : X → Type 0) {o : Option X} {x : X} → o ≡ Some x → P x → IfSome o P
if_some {X} P {o} {x} e p = subst (λ (y : Option X). IfSome y P) (sym e) p

pub some_and : {X : Type 0} (P : X → Type 0) {o : Option X} {x : X} → o ≡ Some x → P x → IsSomeAnd o P
some_and {X} P {o} {x} e p = subst (λ (y : Option X). IsSomeAnd y P) (sym e) p

step_of : (before : List Line) (line : Line) → stepper line ≡ None → IsStepAt before line
step_of before (lines.Move move) e = if_none _ e
step_of before line e = tt

data_of : (before : List Line) (line : Line) → stepper line ≡ None → IsDataAt before line
data_of before (lines.Move (moves.Write (back.Job k) number frame word value)) e = absurd (cc)
data_of before line e = tt

still_disk : (line : Line) → stepper line ≡ None → disk_move_of line ≡ None
still_disk (lines.Move (moves.DiskRead k sector)) e = absurd (cc)
still_disk (lines.Move (moves.DiskWrite k sector)) e = absurd (cc)
still_disk (lines.Move (moves.DiskFlush k)) e = absurd (cc)
still_disk (lines.Move (moves.DiskTrim k sector count)) e = absurd (cc)
still_disk line e = refl

-- after no move of the disk, a line that tells of none
pub no_effect : (before : List Line) (line : Line) → disk_move_shown before ≡ None → outcome_of line ≡ None → IsEffectAt before line
no_effect before line quiet none = record { told = if_none _ quiet; only = λ some. absurd (some none) }

pub bystander_rule : (before : List Line) (line : Line) → disk_move_shown before ≡ None → IsBystander line → IsRule before line
bystander_rule before line quiet b = record { step = step_of before line b.unstepped; moved = data_of before line b.unstepped; effect = no_effect before line quiet (plain_outcome line b.plain) }

-- lines of no job
pub record Aside (config : Options) (before : List Line) (ys : List Line) : Type 0 where
  pub tale : Tale config (before ++ ys)
  pub quiet : disk_move_shown (before ++ ys) ≡ None
  pub epoch : this_epoch (before ++ ys) ≡ this_epoch before ++ ys

pub bystanders_go : (config : Options) (ys before : List Line) → AreBystanders ys → Tale config before → disk_move_shown before ≡ None → Aside config before ys
bystanders_go config [] before all t quiet = record {
  tale = subst (λ (ls : List Line). Tale config ls) (sym (append-nil before)) t;
  quiet = ap disk_move_shown (append-nil before) ∙ quiet;
  epoch = ap this_epoch (append-nil before) ∙ sym (append-nil (this_epoch before));
}
bystanders_go config (y ∷ ys) before all t quiet =
    let b : IsBystander y = all.0 in
    let one : Tale config (before ++ y ∷ []) = tale_more config before y t (plain_epoch y b.plain) (plain_keeps y b.plain) (plain_tells (info_of config) y b.plain) (bystander_rule before y quiet b) in
    let rest : Aside config (before ++ y ∷ []) ys = bystanders_go config ys (before ++ y ∷ []) all.1 one (shown_last before y ∙ still_disk y b.unstepped) in
    record {
      tale = subst (λ (ls : List Line). Tale config ls) (append_assoc before (y ∷ []) ys) rest.tale;
      quiet = ap disk_move_shown (sym (append_assoc before (y ∷ []) ys)) ∙ rest.quiet;
      epoch = ap this_epoch (sym (append_assoc before (y ∷ []) ys)) ∙ (rest.epoch ∙ (ap (λ (ls : List Line). ls ++ ys) (epoch_longer before y (plain_epoch y b.plain)) ∙ append_assoc (this_epoch before) (y ∷ []) ys));
    }

none_of : (k : ℕ) (ys : List Line) → AreBystanders ys → list_any (is_of k) ys ≡ false
none_of k [] all = refl
none_of k (y ∷ ys) all =
    let b : IsBystander y = all.0 in
    ap (λ (o : Option ℕ). is_job k o || list_any (is_of k) ys) b.unstepped ∙ none_of k ys all.1

pub bystanders_aside : (k : ℕ) (ys : List Line) → AreBystanders ys → IsAside k ys
bystanders_aside k [] all = record { none = refl; calm = refl; silent = refl }
bystanders_aside k (y ∷ ys) all =
    let b : IsBystander y = all.0 in
    record { none = none_of k (y ∷ ys) all; calm = plain_fault y b.plain; silent = plain_words y b.plain }
