-- What the back's keys say of what it serves (`io/blkif.h`): what is said stays said, and each key is said as it is published.
use Rattle.std.proofs.Common.{◌≡◌, ◌∙◌, ap, sym, subst, ℕ, ◌+◌, ◌/◌, ◌%◌, ◌^◌, ◌<◌, ◌≤◌, Bool, true, false, true≢false, ◌&&◌, not, ◌==◌, if◌then◌else◌, List, [], ◌∷◌, ◌++◌, inl, inr, refl, arith, decimal}
use Rattle.std.specs.Prelude.{Option, Some, codes, ◌⊎◌}
use Rattle.std.proofs.lemmas.Option.{same_Some}
use Rattle.std.specs.List.{list_all}
use Rattle.std.proofs.lemmas.Bool.Decides.{nat_tests}
use Rattle.std.proofs.lemmas.Fmt.{decimal_by_steps}
use Rattle.std.proofs.lemmas.List.Folds.{list_all-append}
use Rattle.blk_base.specs.declared.parts.End.{End}
use Rattle.blk_base.specs.declared.parts.End.TheVariants as end
use Rattle.blk_base.specs.declared.parts.Mapping.{Mapping}
use Rattle.segment_list.specs.declared.verdict.DiskInfo.{DiskInfo}
use Rattle.key_directory.specs.Directory.{Directory, key_of, written, with_watches}
use Rattle.key_directory.specs.Watches.{Watches}
use Rattle.key_directory.proofs.Entries.{key_of-with_key_same}
use Rattle.blk_back.specs.declared.stage.BackStage.{BackStage}
use Rattle.blk_back.specs.declared.stage.BackStage.TheVariants as ring
use Rattle.xenbus_state.specs.declared.keys.BackKey.{BackKey}
use Rattle.xenbus_state.specs.declared.keys.BackKey.TheVariants as key
use Rattle.xenbus_state.specs.declared.values.KeyValue.{KeyValue}
use Rattle.xenbus_state.specs.declared.offer.Features.{Features}
use Rattle.xenbus_state.specs.declared.offer.DiskFacts.{DiskFacts}
use Rattle.xenbus_state.specs.declared.state.BusState.TheVariants as state
use Rattle.xenbus_state.specs.declared.stage.BackBusStage.{BackBusStage}
use Rattle.xenbus_state.specs.declared.stage.BackBusStage.TheVariants as stage
use Rattle.xenbus_state.specs.declared.front.FrontBusAsk.{FrontBusAsk}
use Rattle.xenbus_state.specs.declared.front.FrontBusAsk.TheVariants as front_ask
use Rattle.xenbus_state.specs.declared.back.BackBusAsk.{BackBusAsk}
use Rattle.xenbus_state.specs.declared.back.BackBusAsk.TheVariants as back_ask
use Rattle.xenbus_state.specs.Keys.{front_name, back_name, path_under}
use Rattle.xenbus_state.specs.States.{state_number, state_read}
use Rattle.xenbus_state.specs.Values.{text_of, flag_of, back_value}
use Rattle.xenbus_state.specs.Programs.{next_feature}
use Rattle.xenbus_state.specs.BackView.{BackView}
use Rattle.xenbus_state.specs.BackAsk.{says_closing, unmap_ask, ask_at, ask_of}
use Rattle.xenbus_state.specs.BackStep.{after_feature}
use Rattle.negotiation_laws.specs.Negotiation.{back_state}
use Rattle.negotiation_laws.proofs.Keys.{back_texts_other, back_texts_state, back_state_other, back_state_key, back_kept, back_said}
use Rattle.negotiation_laws.proofs.Shown.{state_shown}
use Rattle.split_model.specs.Keys.{is_offer, Sets, may_set, may_negotiate, offers, said_by, is_like, says_served, barrier_path, flush_path, discard_path, indirect_path, keys_after, negotiated}
use Rattle.vbd_back.specs.Ask as back
use Rattle.vbd_model.specs.Happening.{front_key, back_key}
use Rattle.vbd_model.specs.Fit.{IsOffered, SaysKey, IsServiceSaid, SaidBefore, SaidAt, IsAnnounced}
use Rattle.vbd_laws.proofs.KeysSet.{may_turn}
use Rattle.vbd_laws.proofs.FitBackKept.{is_publishing, HasSaid}

either : (P : Directory → Type 0) (b : Bool) (x y : Directory) → P x → P y → P (if b then x else y)
either P true x y p q = p
either P false x y p q = q

-- it sets a key to what it has to say
abbrev IsOwn : Features → DiskFacts → BackBusAsk → Type 0
IsOwn f disk (back_ask.SetKey name value) = value ≡ back_value f disk name
IsOwn f disk a = Unit {0}

-- what an end does with the keys: the front's lie under its own directory, and the back sets each of its own to what it has to say
module _ (f : Features) (disk : DiskFacts) (d : Directory) (k : BackKey) where
  abbrev Says : Directory → Type 0
  Says x = SaysKey x f disk k

  set_keeps : (at : End) (path text : List ℕ) → Says (written d path text) → Says d → Says (keys_after at (Sets path text) d)
  set_keeps at path text set says = either Says (may_set at path text) (written d path text) d set says

  pub written_keeps : (name text : List ℕ) → Says d → Says (written d (path_under end.Front name) text)
  written_keeps name text says = ap (λ (texts : BackKey → Option (List ℕ)). texts k) (back_texts_other d.keys name text) ∙ says

  front_set : (name text : List ℕ) → Says d → Says (keys_after end.Front (Sets (path_under end.Front name) text) d)
  front_set name text says = set_keeps end.Front (path_under end.Front name) text (written_keeps name text says) says

  pub front_keeps : (s : BackStage) (a : FrontBusAsk) → Says d → Says (negotiated s end.Front (front_key a) d)
  front_keeps s (front_ask.SetState own) says = front_set (codes "state") (decimal (state_number own)) says
  front_keeps s (front_ask.SetKey name value) says = front_set (front_name name) (text_of value) says
  front_keeps s a says = says

  back_moves : (a : BackBusAsk) → IsOwn f disk a → Says d → Says (keys_after end.Back (back_key a) d)
  back_moves (back_ask.SetKey name value) own says =
      set_keeps end.Back (path_under end.Back (back_name name)) (text_of value)
      (subst (λ (v : KeyValue). Says (written d (path_under end.Back (back_name name)) (text_of v))) (sym own) (back_kept d.keys f disk name k says)) says
  back_moves (back_ask.SetState own_state) own says =
      let text = decimal (state_number own_state) in
      set_keeps end.Back back.own_state text (ap (λ (texts : BackKey → Option (List ℕ)). texts k) (back_texts_state d.keys text) ∙ says) says
  back_moves a own says = says

  back_keeps : (s : BackStage) (a : BackBusAsk) → IsOwn f disk a → Says d → Says (negotiated s end.Back (back_key a) d)
  back_keeps s a own says = either Says (may_negotiate s end.Back (back_key a)) (keys_after end.Back (back_key a) d) d (back_moves a own says) says

-- no key of the front's is the back's state
front_sets : (d : Directory) (name text : List ℕ) → let x : Directory = keys_after end.Front (Sets (path_under end.Front name) text) d in key_of x.keys back_state ≡ key_of d.keys back_state
front_sets d name text =
    either (λ (x : Directory). key_of x.keys back_state ≡ key_of d.keys back_state) (may_set end.Front (path_under end.Front name) text) (written d (path_under end.Front name) text) d (back_state_other d.keys name text) refl

front_state_kept : (s : BackStage) (a : FrontBusAsk) (d : Directory) → let x : Directory = negotiated s end.Front (front_key a) d in key_of x.keys back_state ≡ key_of d.keys back_state
front_state_kept s (front_ask.SetState own) d = front_sets d (codes "state") (decimal (state_number own))
front_state_kept s (front_ask.SetKey name value) d = front_sets d (front_name name) (text_of value)
front_state_kept s a d = refl

-- what the back's keys say of what it serves they say still, and its state is the one that it was
pub record LeavesBack (f : Features) (disk : DiskFacts) (d x : Directory) : Type 0 where
  pub says : (k : BackKey) → SaysKey d f disk k → SaysKey x f disk k
  pub state : key_of x.keys back_state ≡ key_of d.keys back_state

pub same_back : (f : Features) (disk : DiskFacts) (d : Directory) → LeavesBack f disk d d
same_back f disk d = record { says = λ k is. is; state = refl }

pub front_leaves : (f : Features) (disk : DiskFacts) (s : BackStage) (a : FrontBusAsk) (d : Directory) → LeavesBack f disk d (negotiated s end.Front (front_key a) d)
front_leaves f disk s a d = record { says = λ k. front_keeps f disk d k s a; state = front_state_kept s a d }

pub watched_leaves : (f : Features) (disk : DiskFacts) (d x : Directory) (at : End) (w : Watches) → LeavesBack f disk d x → LeavesBack f disk d (with_watches x at w)
watched_leaves f disk d x end.Front w is = record { says = is.says; state = is.state }
watched_leaves f disk d x end.Back w is = record { says = is.says; state = is.state }

pub written_leaves : (f : Features) (disk : DiskFacts) (d : Directory) (name text : List ℕ) → LeavesBack f disk d (written d (path_under end.Front name) text)
written_leaves f disk d name text = record { says = λ k. written_keeps f disk d k name text; state = back_state_other d.keys name text }

unmap_own : (f : Features) (disk : DiskFacts) (pages : List Mapping) → IsOwn f disk (unmap_ask pages)
unmap_own f disk [] = tt
unmap_own f disk (page ∷ pages) = tt

own_at : (b : BackBusStage) (v : BackView) → IsOwn v.features v.disk (ask_at b v)
own_at (stage.Publish name) v = refl
own_at (stage.PublishFact name) v = refl
own_at stage.UnmapPage v = unmap_own v.features v.disk v.pages
own_at b v = tt

-- what the back's negotiation does with the keys leaves what they say
pub asked_keeps : (v : BackView) (s : BackStage) (d : Directory) (k : BackKey) → SaysKey d v.features v.disk k → SaysKey (negotiated s end.Back (back_key (ask_of v)) d) v.features v.disk k
asked_keeps v s d k = back_keeps v.features v.disk d k s (ask_of v) (by_test (says_closing v))
  where
    by_test : (c : Bool) → IsOwn v.features v.disk (if c then back_ask.SetState state.Closing else ask_at v.stage v)
    by_test true = tt
    by_test false = own_at v.stage v

-- the keys that are said
pub all_kept : (P Q : BackKey → Type 0) → ((k : BackKey) → P k → Q k) → IsServiceSaid P → IsServiceSaid Q
all_kept P Q keeps said = record { barrier = keeps key.FeatureBarrier said.barrier; flush = keeps key.FeatureFlushCache said.flush; discard = keeps key.FeatureDiscard said.discard; indirect = keeps key.FeatureMaxIndirectSegments said.indirect; order = keeps key.MaxRingPageOrder said.order }

before_kept : (P Q : BackKey → Type 0) → ((k : BackKey) → P k → Q k) → (k : BackKey) → SaidBefore P k → SaidBefore Q k
before_kept P Q keeps key.FeatureBarrier said = tt
before_kept P Q keeps key.FeatureFlushCache said = keeps key.FeatureBarrier said
before_kept P Q keeps key.FeatureDiscard said = (keeps key.FeatureBarrier said.0, keeps key.FeatureFlushCache said.1)
before_kept P Q keeps key.FeaturePersistent said = (keeps key.FeatureBarrier said.0, keeps key.FeatureFlushCache said.1, keeps key.FeatureDiscard said.2)
before_kept P Q keeps key.FeatureMaxIndirectSegments said = (keeps key.FeatureBarrier said.0, keeps key.FeatureFlushCache said.1, keeps key.FeatureDiscard said.2)
before_kept P Q keeps key.MaxRingPageOrder said = (keeps key.FeatureBarrier said.0, keeps key.FeatureFlushCache said.1, keeps key.FeatureDiscard said.2, keeps key.FeatureMaxIndirectSegments said.3)
before_kept P Q keeps k said = all_kept P Q keeps said

-- so the back's state still says that it offers only where its keys say what
pub announced_kept : (f : Features) (disk : DiskFacts) (d x : Directory) → LeavesBack f disk d x → IsAnnounced (SaysKey d f disk) d → IsAnnounced (SaysKey x f disk) x
announced_kept f disk d x same is read = all_kept (SaysKey d f disk) (SaysKey x f disk) same.says (is (ap state_read (sym same.state) ∙ read))

pub said_kept : (P Q : BackKey → Type 0) → ((k : BackKey) → P k → Q k) → (b : BackBusStage) → SaidAt P b → SaidAt Q b
said_kept P Q keeps (stage.Publish k) said = before_kept P Q keeps k said
said_kept P Q keeps stage.Halted said = tt
said_kept P Q keeps b said = all_kept P Q keeps said

-- past that all are said, or it has halted
abbrev is_over : BackBusStage → Bool
is_over stage.Halted = true
is_over b = false

said_or : (P : BackKey → Type 0) (b : BackBusStage) → is_publishing b ≡ false → SaidAt P b → IsServiceSaid P ⊎ (b ≡ stage.Halted)
said_or P (stage.Publish k) past said = absurd (true≢false past)
said_or P stage.Halted past said = inr refl
said_or P b past said = inl said

said_at : (P : BackKey → Type 0) (b : BackBusStage) → is_publishing b ≡ false → IsServiceSaid P ⊎ (b ≡ stage.Halted) → SaidAt P b
said_at P (stage.Publish k) past said = absurd (true≢false past)
said_at P stage.Halted past said = tt
said_at P b past (inl said) = said
said_at P b past (inr over) = absurd (true≢false (sym (ap is_over over)))

-- so it stays
pub said_past : (P Q : BackKey → Type 0) → ((k : BackKey) → P k → Q k) → (v u : BackView) → is_publishing v.stage ≡ false → ((said : Type 0) → HasSaid said v → HasSaid said u) → SaidAt P v.stage → SaidAt Q u.stage
said_past P Q keeps v u past later said =
    let now = later (IsServiceSaid Q) (past, said_or Q v.stage past (said_kept P Q keeps v.stage said)) in
    said_at Q u.stage now.0 now.1

-- the next one is said
pub said_next : (P : BackKey → Type 0) (k : BackKey) → SaidBefore P k → P k → SaidAt P (after_feature (next_feature k))
said_next P key.FeatureBarrier said is = is
said_next P key.FeatureFlushCache said is = (said, is)
said_next P key.FeatureDiscard said is = (said.0, said.1, is)
said_next P key.FeaturePersistent said is = said
said_next P key.FeatureMaxIndirectSegments said is = (said.0, said.1, said.2, is)
said_next P key.MaxRingPageOrder said is = record { barrier = said.0; flush = said.1; discard = said.2; indirect = said.3; order = is }
said_next P k said is = said

pub set_says : (f : Features) (disk : DiskFacts) (s : BackStage) (d : Directory) (k : BackKey) → s ≡ ring.InitWait → may_set end.Back (path_under end.Back (back_name k)) (text_of (back_value f disk k)) ≡ true
    → SaysKey (negotiated s end.Back (back_key (back_ask.SetKey k (back_value f disk k))) d) f disk k
set_says f disk s d k waits may =
    let turns = may_turn (back_key (back_ask.SetKey k (back_value f disk k))) ring.InitWait refl (λ early. refl) in
    subst (λ (t : BackStage). SaysKey (negotiated t end.Back (back_key (back_ask.SetKey k (back_value f disk k))) d) f disk k) (sym waits) (rw (turns, may) (back_said d.keys f disk k))

-- the back says that it offers once all is said
init_said : (P : BackKey → Type 0) (v : BackView) → ask_of v ≡ back_ask.SetState state.InitWait → SaidAt P v.stage → IsServiceSaid P
init_said P v e said = by_test (says_closing v) e
  where
    by_stage : (b : BackBusStage) → ask_at b v ≡ back_ask.SetState state.InitWait → SaidAt P b → IsServiceSaid P
    by_stage (stage.Publish k) asks is = absurd (cc)
    by_stage stage.Halted asks is = absurd (cc)
    by_stage b asks is = is

    by_test : (c : Bool) → (if c then back_ask.SetState state.Closing else ask_at v.stage v) ≡ back_ask.SetState state.InitWait → IsServiceSaid P
    by_test true asks = absurd (cc)
    by_test false asks = by_stage v.stage asks said

module _ (f : Features) (disk : DiskFacts) (d : Directory) (is : IsAnnounced (SaysKey d f disk) d) where
  abbrev Announced : Directory → Type 0
  Announced x = state_read (key_of x.keys back_state) ≡ Some state.InitWait → IsServiceSaid (SaysKey d f disk)

  announced_after : (a : BackBusAsk) → (a ≡ back_ask.SetState state.InitWait → IsServiceSaid (SaysKey d f disk)) → Announced (keys_after end.Back (back_key a) d)
  announced_after (back_ask.SetState own) said =
      let text : List ℕ = decimal (state_number own) in
      either Announced (may_set end.Back back.own_state text) (written d back.own_state text) d
      (λ read. said (ap back_ask.SetState (same_Some own state.InitWait (sym (state_shown _ own (key_of-with_key_same d.keys back.own_state text)) ∙ read)))) is
  announced_after (back_ask.SetKey name value) said =
      let path = path_under end.Back (back_name name) in
      either Announced (may_set end.Back path (text_of value)) (written d path (text_of value)) d (λ read. is (ap state_read (sym (back_state_key d.keys name (text_of value))) ∙ read)) is
  announced_after a said = is

pub announced_asked : (v : BackView) (s : BackStage) (d : Directory) → SaidAt (SaysKey d v.features v.disk) v.stage → IsAnnounced (SaysKey d v.features v.disk) d
    → let x : Directory = negotiated s end.Back (back_key (ask_of v)) d in IsAnnounced (SaysKey x v.features v.disk) x
announced_asked v s d said is read =
    all_kept (SaysKey d v.features v.disk) _ (asked_keeps v s d)
    (either (Announced v.features v.disk d is) (may_negotiate s end.Back (back_key (ask_of v))) (keys_after end.Back (back_key (ask_of v)) d) d
    (announced_after v.features v.disk d is (ask_of v) (λ asks. init_said (SaysKey d v.features v.disk) v asks said)) is read)

-- then they say what the back's disk has: a number is 0 where all its digits are
zeros : (n : ℕ) → n < 2 ^ 64 → list_all (λ (d : ℕ). d == 48) (decimal n) ≡ (n == 0)
zeros n fits = decimal_by_steps (λ m ds. list_all (λ (d : ℕ). d == 48) ds ≡ (m == 0)) one more n fits
  where
    one : (n : ℕ) → n < 10 → list_all (λ (d : ℕ). d == 48) ((48 + n) ∷ []) ≡ (n == 0)
    one n low = by_test (n == 0) refl
      where
        by_test : (b : Bool) → (n == 0) ≡ b → list_all (λ (d : ℕ). d == 48) ((48 + n) ∷ []) ≡ b
        by_test true e = let none : (48 + n == 48) ≡ true = grind (arith, nat_tests) in rw none refl
        by_test false e = let some : (48 + n == 48) ≡ false = grind (arith, nat_tests) in rw some refl

    more : (n : ℕ) (ds : List ℕ) → 10 ≤ n → list_all (λ (d : ℕ). d == 48) ds ≡ (n / 10 == 0) → list_all (λ (d : ℕ). d == 48) (ds ++ (48 + n % 10) ∷ []) ≡ (n == 0)
    more n ds le h =
        let high : (n / 10 == 0) ≡ false = (let some : 1 ≤ n / 10 = omega arith in grind (arith, nat_tests)) in
        let some : (n == 0) ≡ false = grind (arith, nat_tests) in
        list_all-append (λ (d : ℕ). d == 48) ds ((48 + n % 10) ∷ []) ∙ rw (h, high, some) refl

number_offer : (n : ℕ) → n < 2 ^ 64 → is_offer (decimal n) ≡ not (n == 0)
number_offer n fits = ap not (zeros n fits)

flag_offer : (b : Bool) → is_offer (decimal (flag_of b)) ≡ b
flag_offer true = number_offer 1 (omega arith)
flag_offer false = number_offer 0 (omega arith)

offered : (text : Option (List ℕ)) (n : ℕ) (b has : Bool) → text ≡ Some (decimal n) → is_offer (decimal n) ≡ b → has ≡ b → is_like (offers text) has ≡ true
offered text n b has says is same =
    subst (λ (o : Option (List ℕ)). is_like (offers o) has ≡ true) (sym says)
    (subst (λ (c : Bool). is_like (is_offer (decimal n)) c ≡ true) (sym same) (subst (λ (c : Bool). is_like c b ≡ true) (sym is) (elim b as (λ b. is_like b b ≡ true) [ true ↦ refl | false ↦ refl ])))

all_true : (a b c d : Bool) → a ≡ true → b ≡ true → c ≡ true → d ≡ true → (a && b && c && d) ≡ true
all_true true true true true p q r s = refl
all_true true true true false p q r s = s
all_true true true false d p q r s = r
all_true true false c d p q r s = q
all_true false b c d p q r s = p

pub served_said : (d : Directory) (f : Features) (disk : DiskFacts) (info : DiskInfo) → IsOffered info f disk → f.indirect ≤ 960 → IsServiceSaid (SaysKey d f disk) → says_served (said_by d) info ≡ true
served_said d f disk info is few said =
    all_true _ _ _ _ (offered (key_of d.keys barrier_path) (flag_of f.barrier) f.barrier info.barrier said.barrier (flag_offer f.barrier) is.barrier)
    (offered (key_of d.keys flush_path) (flag_of f.flush) f.flush info.flush said.flush (flag_offer f.flush) is.flush)
    (offered (key_of d.keys discard_path) (flag_of f.discard) f.discard info.discard said.discard (flag_offer f.discard) is.discard)
    (offered (key_of d.keys indirect_path) f.indirect (not (f.indirect == 0)) (not (info.max_indirect == 0)) said.indirect (number_offer f.indirect (omega arith)) (ap (λ (n : ℕ). not (n == 0)) is.indirect))
