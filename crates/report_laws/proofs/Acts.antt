-- An act's move is a line of the grammar, and leaves memory words of 32 bits, where what was asked has the widths.
use Rattle.std.proofs.Common.{◌≡◌, ℕ, ◌+◌, ◌^◌, ◌<◌, ◌≤◌, ◌==◌, Bool, true, false, List, [], ◌∷◌, refl, subst, arith}
use Rattle.std.specs.Prelude.{All, Some, Result, Ok, Err, nat_lt, FitsSigned}
use Rattle.std.specs.Int.{w32}
use Rattle.std.specs.List.{AllByRecursion}
use Rattle.std.proofs.lemmas.Option.{none-some, same_Some}
use Rattle.std.proofs.lemmas.List.Elements.{recursion_from_All, All-contains}
use Rattle.blk_base.specs.declared.parts.Mapping.{Mapping}
use Rattle.blk_base.specs.declared.parts.Mode.{Mode}
use Rattle.blk_base.specs.declared.ask.FrontAsk.{FrontAsk}
use Rattle.blk_base.specs.declared.ask.FrontAsk.TheVariants as front_ask
use Rattle.blk_base.specs.declared.ask.FrontAnswer.{FrontAnswer}
use Rattle.blk_base.specs.declared.ask.FrontAnswer.TheVariants as front_answer
use Rattle.blk_base.specs.declared.ask.BackAnswer.{BackAnswer}
use Rattle.blk_base.specs.declared.ask.BackAnswer.TheVariants as back_answer
use Rattle.blk_base.specs.declared.ask.BackAsk.{BackAsk}
use Rattle.blk_base.specs.declared.ask.BackAsk.TheVariants as back_ask
use Rattle.blk_base.specs.declared.moves.BackMover.{BackMover}
use Rattle.blk_base.specs.declared.moves.BackMover.TheVariants as back_mover
use Rattle.blk_base.specs.declared.moves.Mover.TheVariants as mover
use Rattle.blk_base.specs.declared.moves.Move.{Move}
use Rattle.blk_base.specs.declared.moves.Move.TheVariants as moves
use Rattle.xen_pages.specs.Pages.{word_of}
use Rattle.grant_table.specs.declared.held.Held.{Held}
use Rattle.grant_table.specs.declared.entry.MapRefusal.{MapRefusal}
use Rattle.grant_table.specs.declared.entry.MapRefusal.TheVariants.{General, BadRef}
use Rattle.grant_table.specs.Entry.{status_of}
use Rattle.grant_table.specs.Table.{GrantTable, IsLive, entry_word0, entry_word1, frame_of, held_of, verdict_at}
use Rattle.grant_table.specs.Sound.{IsGrantable}
use Rattle.line_text.specs.Sector.{IsSector}
use Rattle.schedule_text.specs.declared.line.Line.TheVariants as lines
use Rattle.schedule_text.specs.Range.{IsInRange, MoveHasWidths, MoverHasWidths, BackHasWidths, is_move_allowed, is_mover_allowed, is_back_allowed}
use Rattle.hypervisor.specs.Hypervisor.{Hypervisor}
use Rattle.hypervisor.specs.Act.{FrontAct, BackAct, Outcome, IsGiven, front_act, back_act, mover_of, job_number, map_act}
use Rattle.blk_front.specs.Ask.{StaysInMemory}
use Rattle.back_jobs.specs.Hands.{Names}
use Rattle.split_model.specs.Safe.{AreHeld}
use Rattle.split_model.proofs.Acting.{FrontWatched, FrontRead, FrontWrite, FrontCas, FrontPort, FrontGet, FrontSet, FrontWatch, front_acts, BackEvent, BackWatched, BackRead, BackWrite, BackMap, BackMapRefused, BackUnmap, BackBind, BackBindRefused, BackGet, BackSet, BackWatch, DiskGives, ReadFails, DiskTakes, WriteFails, DiskFlushes, FlushFails, DiskTrims, TrimFails, back_acts}
use Rattle.move_laws.proofs.Entries.{Found, found, frame_found, IsGranted, granted}
use Rattle.report_laws.proofs.Spelled.{AreSpelled, next_path}
use Rattle.report_laws.proofs.Words.{AreWords, word_fits, write_fits, exchange_fits, map_fits, unmap_fits}

pub record ActFits (shown : Move) (pages : List ℕ) : Type 0 where
  pub line : IsInRange (lines.Move shown)
  pub words : AreWords pages

act_fits : (shown : Move) (pages : List ℕ) → MoveHasWidths shown → is_move_allowed shown ≡ true → AreWords pages → ActFits shown pages
act_fits shown pages widths allowed words = record { line = record { widths = widths; allowed = allowed }; words = words }

-- the values that the front asks to write have 32 bits, and so has the number of a port that it makes; it asks for no key yet
abbrev pub FrontFits : Hypervisor → FrontAsk → Type 0
FrontFits h (front_ask.Write frame word value) = value < 2 ^ 32
FrontFits h (front_ask.Cas frame word old new) = (old < 2 ^ 32) × (new < 2 ^ 32)
FrontFits h front_ask.NewPort = h.channels.made + 1 < 2 ^ 32
FrontFits h (front_ask.GetKey path) = ⊥
FrontFits h (front_ask.SetKey path text) = ⊥
FrontFits h (front_ask.Watch path) = ⊥
FrontFits h ask = Unit {0}

pub front_act_fits : (h : Hypervisor) (ask : FrontAsk) (a : FrontAct) → AreWords h.pages → StaysInMemory ask → FrontFits h ask → AreSpelled h.keys → front_act h ask ≡ Some a → ActFits a.shown a.under.pages
front_act_fits h ask a words within fits spelled e = (elim (front_acts h ask a e) as (λ asked x acts. StaysInMemory asked → FrontFits h asked → ActFits x.shown x.under.pages) [
  | FrontWatched path first ↦ λ within fits. act_fits (moves.Watched mover.Front path) h.pages tt (next_path h.keys.front path spelled.front first) words
  | FrontRead frame word ↦ λ within fits.
      act_fits (moves.FrontRead frame word (word_of h.pages frame word)) h.pages (omega (arith, within.0), omega (arith, within.1), word_fits h.pages frame word words) refl words
  | FrontWrite frame word value ↦ λ within fits.
      act_fits (moves.FrontWrite frame word value) _ (omega (arith, within.0), omega (arith, within.1), fits) refl (write_fits h.pages frame word value words fits)
  | FrontCas frame word old new ↦ λ within fits.
      act_fits (moves.FrontCas frame word old new (word_of h.pages frame word)) _ (omega (arith, within.0), omega (arith, within.1), fits.0, fits.1, word_fits h.pages frame word words) refl
      (exchange_fits h.pages frame word old new words fits.1)
  | FrontPort ↦ λ within fits. act_fits (moves.FrontPort (h.channels.made + 1)) h.pages fits refl words
  | FrontGet path ↦ λ within fits. absurd fits
  | FrontSet path text is ↦ λ within fits. absurd fits
  | FrontWatch path ↦ λ within fits. absurd fits
  | acts ↦ λ within fits. act_fits _ h.pages tt refl words
]) within fits

-- a word that it is told has 32 bits
abbrev pub FrontTells : FrontAnswer → Type 0
FrontTells (front_answer.Word word) = word < 2 ^ 32
FrontTells a = Unit {0}

pub front_told_fits : (h : Hypervisor) (ask : FrontAsk) (a : FrontAct) → AreWords h.pages → FrontFits h ask → front_act h ask ≡ Some a → FrontTells a.answer
front_told_fits h ask a words fits e = elim (front_acts h ask a e) as (λ asked x acts. FrontTells x.answer) [
  | FrontRead frame word ↦ word_fits h.pages frame word words
  | FrontCas frame word old new ↦ word_fits h.pages frame word words
  | acts ↦ tt
]

-- the back or a job of a number of 64 bits, above 0
pub record IsMover (who : BackMover) : Type 0 where
  pub widths : BackHasWidths who
  pub allowed : is_back_allowed who ≡ true

-- so has a move that shows who it is by
mover_fits : {who : BackMover} → IsMover who → MoverHasWidths (mover_of who) × (is_mover_allowed (mover_of who) ≡ true)
mover_fits {who = back_mover.Back} is = (tt, refl)
mover_fits {who = back_mover.Job k} is = (is.widths, is.allowed)

-- a call of the disk is a job's
abbrev pub IsCaller : BackMover → Type 0
IsCaller who = (job_number who < 2 ^ 64) × (nat_lt 0 (job_number who) ≡ true)

-- the values that the back or a job asks to write have 32 bits, and so have references and ports; sectors have 64; neither asks for a key yet
abbrev pub BackFits : BackMover → BackAsk → Type 0
BackFits who (back_ask.Write m word value) = value < 2 ^ 32
BackFits who (back_ask.Map gref mode) = gref < 2 ^ 32
BackFits who (back_ask.Bind p) = p < 2 ^ 32
BackFits who (back_ask.DiskRead sector) = (sector < 2 ^ 64) × IsCaller who
BackFits who (back_ask.DiskWrite sector words) = (sector < 2 ^ 64) × IsCaller who
BackFits who back_ask.Flush = IsCaller who
BackFits who (back_ask.Trim sector count) = (sector < 2 ^ 64) × (count < 2 ^ 64) × IsCaller who
BackFits who (back_ask.GetKey path) = ⊥
BackFits who (back_ask.SetKey path text) = ⊥
BackFits who (back_ask.Watch path) = ⊥
BackFits who ask = Unit {0}

-- what holds of each live mapping holds of the one of a number
found_holds : (P : Held → Type 0) (number : ℕ) (live : List Held) (held : Held) → AllByRecursion P live → held_of number live ≡ Some held → P held
found_holds P number [] held all e = absurd (none-some held e)
found_holds P number (h ∷ live) held all e = by_test (h.mapping.number == number) refl (found_holds P number live held all.1)
  where
    by_test : (same : Bool) → (h.mapping.number == number) ≡ same → (held_of number live ≡ Some held → P held) → P held
    by_test true t later =
        let first : Some h ≡ Some held = rw t at e in
        subst P (same_Some h held first) all.0
    by_test false t later = later (rw t at e)

-- a mapping in a hand has a number of one that was made, and a frame that may be granted
pub record IsHeldWell (table : GrantTable) (m : Mapping) : Type 0 where
  pub number : m.number ≤ table.made
  pub frame : frame_of table m ≤ 1023

held_well : (table : GrantTable) (hands : List Mapping) (m : Mapping) → All IsGrantable table.live → AreHeld table hands → IsLive table m → IsHeldWell table m
held_well table hands m grantable held live =
    let f : Found table m = found table m live grantable in
    let number : f.held.mapping.number ≤ table.made = found_holds (λ (h : Held). h.mapping.number ≤ table.made) m.number table.live f.held (recursion_from_All (λ (h : Held). h.mapping.number ≤ table.made) table.live held.made_before) f.is in
    let high : f.held.frame ≤ 1023 = f.fits.high in
    let frame : frame_of table m ≡ f.held.frame = frame_found table m f in
    record { number = subst (λ (x : Mapping). x.number ≤ table.made) f.same number; frame = omega arith }

abbrev BackActFits : BackAct → Type 0
BackActFits a = ActFits a.shown a.under.pages

status_fits : (refusal : MapRefusal) → FitsSigned w32 (status_of refusal)
status_fits General = omega arith
status_fits BadRef = omega arith

map_act_fits : (h : Hypervisor) (who : BackMover) (gref : ℕ) (mode : Mode) (verdict : Result ℕ MapRefusal) → AreWords h.pages → IsMover who → gref < 2 ^ 32 → h.grants.made + 1 < 2 ^ 64 → verdict_at h.pages gref mode ≡ verdict → BackActFits (map_act h who gref mode verdict)
map_act_fits h who gref mode (Ok frame) words is fits few e =
    let g : IsGranted gref frame = granted gref (entry_word0 h.pages gref) (entry_word1 h.pages gref) mode frame e in
    let high : frame ≤ 1023 = g.high in
    act_fits (moves.Map who gref mode (h.grants.made + 1) frame) _ (is.widths, fits, few, omega arith) is.allowed (map_fits h.pages gref mode words)
map_act_fits h who gref mode (Err refusal) words is fits few e = act_fits (moves.MapRefused who gref mode (status_of refusal)) h.pages (is.widths, fits, status_fits refusal) is.allowed words

-- it fits where its ask does
abbrev AskedFits : (hands : List Mapping) → BackMover → BackAsk → BackAct → Type 0
AskedFits hands who ask a = IsMover who → Names hands ask → BackFits who ask → ActFits a.shown a.under.pages

pub back_act_fits : (h : Hypervisor) (who : BackMover) (ask : BackAsk) (o : Outcome) (a : BackAct) (hands : List Mapping) → AreWords h.pages → All IsGrantable h.grants.live → AreHeld h.grants hands → h.grants.made + 1 < 2 ^ 64 → IsMover who → Names hands ask → BackFits who ask → AreSpelled h.keys → back_act h who ask o ≡ Some a → ActFits a.shown a.under.pages
back_act_fits h who ask o a hands words grantable held few is names fits spelled e = (elim (back_acts h who ask o a e) as (λ mover asked outcome x acts. AskedFits hands mover asked x) [
  | BackEvent ↦ λ is names fits. act_fits (moves.Event mover.Back) h.pages tt refl words
  | BackWatched path first ↦ λ is names fits. act_fits (moves.Watched mover.Back path) h.pages tt (next_path h.keys.back path spelled.back first) words
  | BackRead m word ↦ λ is names fits.
      let well = held_well h.grants hands m grantable held (All-contains (IsLive h.grants) hands m held.live names.0) in
      let number = well.number in
      let frame = well.frame in
      act_fits _ h.pages (is.widths, omega arith, omega arith, omega (arith, names.1), word_fits h.pages (frame_of h.grants m) word words) is.allowed words
  | BackWrite m word value ↦ λ is names fits.
      let well = held_well h.grants hands m grantable held (All-contains (IsLive h.grants) hands m held.live names.0) in
      let number = well.number in
      let frame = well.frame in
      act_fits _ _ (is.widths, omega arith, omega arith, omega (arith, names.2), fits) is.allowed (write_fits h.pages (frame_of h.grants m) word value words fits)
  | BackMap gref mode frame granted ↦ λ is names fits. map_act_fits h _ gref mode (Ok frame) words is fits few granted
  | BackMapRefused gref mode refusal refused ↦ λ is names fits. map_act_fits h _ gref mode (Err refusal) words is fits few refused
  | BackUnmap m ↦ λ is names fits.
      let well = held_well h.grants hands m grantable held (All-contains (IsLive h.grants) hands m held.live names) in
      let number = well.number in
      act_fits _ _ (is.widths, omega arith) is.allowed (unmap_fits h.grants h.pages m words)
  | BackBind p unbound ↦ λ is names fits. act_fits (moves.Bind p) h.pages fits refl words
  | BackBindRefused p ↦ λ is names fits. act_fits (moves.BindRefused p) h.pages fits refl words
  | BackGet path ↦ λ is names fits. absurd fits
  | BackSet path text own ↦ λ is names fits. absurd fits
  | BackWatch path ↦ λ is names fits. absurd fits
  | DiskGives sector given ↦ λ is names fits. act_fits _ h.pages (fits.1.0, fits.0) fits.1.1 words
  | ReadFails sector ↦ λ is names fits. act_fits _ h.pages (fits.1.0, fits.0) fits.1.1 words
  | DiskTakes sector taken ↦ λ is names fits. act_fits _ h.pages (fits.1.0, fits.0) fits.1.1 words
  | WriteFails sector failed ↦ λ is names fits. act_fits _ h.pages (fits.1.0, fits.0) fits.1.1 words
  | DiskFlushes ↦ λ is names fits. act_fits _ h.pages fits.0 fits.1 words
  | FlushFails ↦ λ is names fits. act_fits _ h.pages fits.0 fits.1 words
  | DiskTrims sector count ↦ λ is names fits. act_fits _ h.pages (fits.2.0, fits.0, fits.1) fits.2.1 words
  | TrimFails sector count ↦ λ is names fits. act_fits _ h.pages (fits.2.0, fits.0, fits.1) fits.2.1 words
  | acts ↦ λ is names fits. let own = mover_fits is in act_fits _ h.pages own.0 own.1 words
]) is names fits

-- a word that the back or a job is told has 32 bits, a sector is one of the grammar, and so is the status of a refusal
abbrev pub BackTells : BackAnswer → Type 0
BackTells (back_answer.Word word) = word < 2 ^ 32
BackTells (back_answer.Sector words) = IsSector words
BackTells (back_answer.MapRefused status) = FitsSigned w32 status
BackTells a = Unit {0}

pub back_told_fits : (h : Hypervisor) (who : BackMover) (ask : BackAsk) (o : Outcome) (a : BackAct) → AreWords h.pages → IsGiven o → BackFits who ask → back_act h who ask o ≡ Some a → BackTells a.answer
back_told_fits h who ask o a words given fits e = (elim (back_acts h who ask o a e) as (λ who asked outcome x acts. IsGiven outcome → BackTells x.answer) [
  | BackRead m word ↦ λ given. word_fits h.pages (frame_of h.grants m) word words
  | BackMapRefused gref mode refusal is ↦ λ given. status_fits refusal
  | DiskGives sector gives ↦ λ given. record { size = given.0; fits = given.1 }
  | acts ↦ λ given. tt
]) given
