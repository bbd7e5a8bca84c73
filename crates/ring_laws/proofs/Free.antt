-- Lines of others than the back, and those that say what a job did: the rules of the ring pass over them.
use Rattle.std.proofs.Common.{◌≡◌, ℕ, Bool, true, false, List, [], ◌∷◌, ◌++◌, refl, sym, subst, append_assoc}
use Rattle.std.specs.Prelude.{Option, Some, None, is_some, if◌then◌else◌}
use Rattle.std.specs.List.{AllByRecursion}
use Rattle.std.proofs.lemmas.Option.{none-some}
use Rattle.std.proofs.lemmas.List.{append-nil}
use Rattle.blk_base.specs.declared.operation.Abi.{Abi}
use Rattle.blk_base.specs.declared.ask.BackAsk.{BackAsk}
use Rattle.blk_base.specs.declared.ask.BackAsk.TheVariants as back_ask
use Rattle.blk_base.specs.declared.ask.BackAnswer.{BackAnswer}
use Rattle.blk_base.specs.declared.ask.BackAnswer.TheVariants as answers
use Rattle.blk_base.specs.declared.moves.BackMover.TheVariants as back
use Rattle.hypervisor.specs.Hypervisor.{Hypervisor}
use Rattle.hypervisor.specs.Act.{BackAct, Outcome, back_act}
use Rattle.schedule_text.specs.declared.line.Line.{Line}
use Rattle.schedule_text.specs.declared.line.Line.TheVariants as lines
use Rattle.report_rules.specs.Ring.{abi_after}
use Rattle.report_rules.specs.Overrun.{is_service}
use Rattle.report_rules.specs.Stretch.{IsStretchAt}
use Rattle.blk_back.specs.declared.told.BackTold.{BackTold}
use Rattle.blk_back.specs.declared.told.BackTold.TheVariants as back_told
use Rattle.blk_base.specs.declared.halt.Halt.{Halt}
use Rattle.blk_back.specs.View.{View}
use Rattle.split_model.specs.Shown.{back_lines, effect_line}
use Rattle.split_model.proofs.Acting.{BackActs, BackFence, BackBind, BackBindRefused, BackSend, BackClose, back_acts}
use Rattle.split_model.proofs.SafeAnswers.{IsJobs}
use Rattle.ring_laws.specs.Layout.{reads_protocol, IsNamedFirstAt}
use Rattle.ring_laws.proofs.Sight.{is_other, other_epoch, other_touch, same_abi, foreign_abi, untouched_produced, untouched_word, is_of_back}
use Rattle.ring_laws.proofs.Shows.{Sight, shows_named, unnamed_first}
use Rattle.ring_laws.proofs.ObeysRing.{ObeysRing, is_overrun, ring_more, shows_none, foreign_stretch}
use Rattle.ring_laws.proofs.Knows.{Knows, Follows}

-- a line that no rule of the ring stops, where the back has halted or not
pub record IsFree (over : Bool) (line : Line) : Type 0 where
  pub other : is_other line ≡ true
  pub foreign : is_of_back line ≡ false
  pub idle : over ≡ true → is_service line ≡ false
  pub plain : is_overrun line ≡ false

abbrev pub AreFree : Bool → List Line → Type 0
AreFree over ls = AllByRecursion (IsFree over) ls

-- a line that the rules of the ring pass over, where the rule on stretches allows it, and the back knows the layout that it may name
pub follow_named : (start : ℕ) (values : List ℕ) (before : List Line) (line : Line) (v new : View) (abi : Option Abi) (f : Follows start values before v) → is_other line ≡ true → (let x : Sight = f.sight in abi_after x.abi line ≡ abi) → (is_some v.halted ≡ true → is_service line ≡ false) → is_overrun line ≡ false
    → IsNamedFirstAt before line → IsStretchAt before line → new.halted ≡ v.halted → (let x : Sight = f.sight in Knows (record x { abi = abi }) new) → Follows start values (before ++ line ∷ []) new
follow_named start values before line v new abi f other named idle plain first stretch same knows =
    let x : Sight = f.sight in
    record {
      sight = record x { abi = abi };
      begun = f.begun;
      more = f.more;
      grown = f.grown;
      shows = shows_named before line f.sight abi other named first f.shows;
      knows = knows;
      stands = subst (λ (halted : Option Halt). ObeysRing (before ++ line ∷ []) x.start (is_some halted)) (sym same)
          (ring_more before line x.start (is_some v.halted) f.stands (other_epoch line other) (shows_none before line (untouched_produced before line (other_touch line other))) idle plain first (λ small. stretch));
    }

pub follow_other : (start : ℕ) (values : List ℕ) (before : List Line) (line : Line) (v : View) → is_other line ≡ true → reads_protocol line ≡ false → (is_some v.halted ≡ true → is_service line ≡ false) → is_overrun line ≡ false → IsStretchAt before line → Follows start values before v → Follows start values (before ++ line ∷ []) v
follow_other start values before line v other unnamed idle plain stretch f =
    let x : Sight = f.sight in
    follow_named start values before line v v x.abi f other (same_abi x.abi line unnamed) idle plain (unnamed_first before line unnamed) stretch refl f.knows

pub follow_free : (start : ℕ) (values : List ℕ) (before : List Line) (line : Line) (v : View) → IsFree (is_some v.halted) line → Follows start values before v → Follows start values (before ++ line ∷ []) v
follow_free start values before line v free f =
    follow_other start values before line v free.other (foreign_abi line free.foreign) free.idle free.plain (foreign_stretch before line free.foreign (untouched_word before line (other_touch line free.other))) f

pub follow_all : (start : ℕ) (values : List ℕ) (more before : List Line) (v : View) → AreFree (is_some v.halted) more → Follows start values before v → Follows start values (before ++ more) v
follow_all start values [] before v free f = subst (λ (ls : List Line). Follows start values ls v) (sym (append-nil before)) f
follow_all start values (line ∷ more) before v free f =
    subst (λ (ls : List Line). Follows start values ls v) (append_assoc before (line ∷ []) more) (follow_all start values more (before ++ line ∷ []) v free.1 (follow_free start values before line v free.0 f))

pub free : (over : Bool) (line : Line) → is_other line ≡ true → is_of_back line ≡ false → is_service line ≡ false → is_overrun line ≡ false → IsFree over line
free over line o f s p = record { other = o; foreign = f; idle = λ e. s; plain = p }

-- one of a job, which the back has not unmapped
busy : (over : Bool) (line : Line) → over ≡ false → is_other line ≡ true → is_of_back line ≡ false → is_overrun line ≡ false → IsFree over line
busy over line running o f p = record { other = o; foreign = f; idle = λ e. absurd (cc); plain = p }

abbrev JobFree : Bool → BackAct → Type 0
JobFree over a = IsFree over (lines.Move a.shown)

acts_free : (over : Bool) (h : Hypervisor) (k : ℕ) (ask : BackAsk) (o : Outcome) (a : BackAct) → over ≡ false → IsJobs ask → BackActs h (back.Job k) ask o a → JobFree over a
acts_free over h k ask o a running own BackFence = absurd own
acts_free over h k ask o a running own (BackBind p unbound) = absurd own
acts_free over h k ask o a running own (BackBindRefused p) = absurd own
acts_free over h k ask o a running own BackSend = absurd own
acts_free over h k ask o a running own BackClose = absurd own
acts_free over h k ask o a running own acts = busy over _ running refl refl refl

pub job_free : (over : Bool) (h : Hypervisor) (k : ℕ) (ask : BackAsk) (o : Outcome) (a : BackAct) → over ≡ false → IsJobs ask → back_act h (back.Job k) ask o ≡ Some a → JobFree over a
job_free over h k ask o a running own e = acts_free over h k ask o a running own (back_acts h (back.Job k) ask o a e)

-- after a halt no job moves
pub job_running : (over : Bool) (h : Hypervisor) (k : ℕ) (ask : BackAsk) (o : Outcome) (a : BackAct) → back_act h (back.Job k) (if over then back_ask.Wait else ask) o ≡ Some a → over ≡ false
job_running true h k ask o a e = absurd (none-some a e)
job_running false h k ask o a e = refl

free_effect : (over : Bool) (id index : ℕ) (a : BackAnswer) → over ≡ false → IsFree over (effect_line id index a)
free_effect over id index (answers.Sector words) running = busy over (lines.EffectRead id index words) running refl refl refl
free_effect over id index a running = busy over (lines.Effect id index) running refl refl refl

pub free_told : (over : Bool) (t : Option BackTold) (a : BackAnswer) → over ≡ false → AreFree over (back_lines t a)
free_told over None a running = tt
free_told over (Some (back_told.Effect id index)) a running = (free_effect over id index a running, tt)
free_told over (Some (back_told.Flushed id)) a running = (busy over (lines.Flushed id) running refl refl refl, tt)
free_told over (Some (back_told.Trimmed id)) a running = (busy over (lines.Trimmed id) running refl refl refl, tt)
free_told over (Some (back_told.Fault id index)) a running = (busy over (lines.Fault id index) running refl refl refl, tt)
free_told over (Some (back_told.Reply id status)) a running = (busy over (lines.Reply id status) running refl refl refl, tt)

pub free_end : (over : Bool) → IsFree over lines.End
free_end over = free over lines.End refl refl refl refl
