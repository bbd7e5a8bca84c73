-- The front tells the data of a read.
use Rattle.std.proofs.Common.{◌≡◌, ◌≢◌, ℕ, ◌+◌, ◌*◌, ◌/◌, ◌%◌, ◌<◌, ◌≤◌, ◌==◌, Bool, true, false, if◌then◌else◌, List, [], ◌∷◌, ◌++◌, length, take, refl, sym, ap, ◌∙◌, subst, arith, length-set, length-append}
use Rattle.std.specs.Prelude.{Option, Some, None, nat_lt, slice_set}
use Rattle.std.proofs.lemmas.Bool.Decides.{nat_tests}
use Rattle.std.proofs.lemmas.List.{take_more_set}
use Rattle.std.proofs.Math.Seq.{take-length}
use Rattle.blk_base.specs.declared.ask.FrontAsk.TheVariants.{Read}
use Rattle.blk_base.specs.declared.ask.FrontAnswer.TheVariants as answer
use Rattle.blk_front.specs.declared.request.Request.{Request}
use Rattle.blk_front.specs.declared.stage.FrontStage.{FrontStage}
use Rattle.blk_front.specs.declared.stage.FrontStage.TheVariants as stage
use Rattle.blk_front.specs.declared.told.Told.{Told}
use Rattle.blk_front.specs.declared.told.Told.TheVariants as told
use Rattle.blk_front.specs.Request.{frame_at}
use Rattle.blk_front.specs.Pool.{with_all_free}
use Rattle.blk_front.specs.View.{View}
use Rattle.blk_front.specs.Step.{at, finished, data_step, left_step}
use Rattle.front_laws.specs.Sight.{Sight, moved}
use Rattle.front_laws.specs.Told.{told_of, told_of_data}
use Rattle.front_laws.proofs.Places.{pooled_at, data_near, data_far}
use Rattle.front_laws.proofs.Known.{core_of, share_of, hand_of, parts_of, Agree, IsSized, Idle, IsAnew, IsTelling, Known, Goes, goes, calm}
use Rattle.front_laws.proofs.Simple.{Steps}
use Rattle.front_laws.proofs.Ending.{free_size}

-- the first words of a sector, and one more
one_word_more : (words : List ℕ) (k value : ℕ) → k < length words → take (k + 1) (slice_set words k value) ≡ take k words ++ value ∷ []
one_word_more words k value lt = take_more_set words k value lt

none : (l : List ℕ) → take 0 l ≡ []
none [] = refl
none (x ∷ l) = refl

module _ (s : Sight) (v : View) (quiet : v.told ≡ None) (agree : Agree (core_of s) (share_of v)) (sized : IsSized v.pool v.words) where
  -- a word of data is read
  module _ (n value : ℕ) (k : IsTelling (hand_of s) v.words v.ending n) where
    abbrev its : Request
    its = k.e.request

    far : 18 ≤ frame_at its (n / 1024)
    far = (pooled_at its k.pooled (n / 1024)).0

    abbrev grown : Sight
    grown = record s { words = s.words ++ value ∷ [] }

    reads : moved (Read (frame_at its (n / 1024)) (n % 1024)) (answer.Word value) s ≡ grown
    reads = rw (data_near (frame_at its (n / 1024)) far, data_far (frame_at its (n / 1024)) far) refl

    abbrev told_data : Option Told
    told_data = if length (s.words ++ value ∷ []) == 128 then Some (told.Sector its.number s.sector (s.words ++ value ∷ [])) else None

    tells : told_of s (Read (frame_at its (n / 1024)) (n % 1024)) (answer.Word value) ≡ told_data
    tells =
        rw (data_near (frame_at its (n / 1024)) far, data_far (frame_at its (n / 1024)) far)
        (ap (λ (o : Option Request). told_of_data o s.sector (s.words ++ value ∷ [])) k.telling)

    place : n % 128 ≡ length s.words
    place = let at = k.at in let short = k.short in omega arith

    sector : n / 128 ≡ s.sector
    sector = let at = k.at in let short = k.short in omega arith

    long : length (s.words ++ value ∷ []) ≡ length s.words + 1
    long = length-append s.words (value ∷ [])

    set : take (length s.words + 1) (slice_set v.words (n % 128) value) ≡ s.words ++ value ∷ []
    set =
        ap (λ (i : ℕ). take (length s.words + 1) (slice_set v.words i value)) place
        ∙ (one_word_more v.words (length s.words) value (let sized_so = sized.sector in let short = k.short in omega arith)
        ∙ ap (λ (l : List ℕ). l ++ value ∷ []) k.words)

    sized_after : length (slice_set v.words (n % 128) value) ≡ 128
    sized_after = length-set v.words (n % 128) value ∙ sized.sector

    -- the last word of a sector
    full : n % 128 ≡ 127 → slice_set v.words (n % 128) value ≡ s.words ++ value ∷ []
    full last =
        sym (take-length (slice_set v.words (n % 128) value))
        ∙ (ap (λ (i : ℕ). take i (slice_set v.words (n % 128) value)) (let sized_so = sized_after in let at = place in omega arith) ∙ set)

    abbrev stored : List ℕ
    stored = slice_set v.words (n % 128) value

    abbrev told_sector : Told
    told_sector = told.Sector its.number (n / 128) stored

    -- what the lines tell after it, and what is told
    abbrev next_sector : Sight
    next_sector = record grown { sector = s.sector + 1; words = [] }

    same_told : n % 128 ≡ 127 → Some told_sector ≡ told_data
    same_told last =
        ap (λ (j : ℕ). Some (told.Sector its.number j stored)) sector
        ∙ (ap (λ (l : List ℕ). Some (told.Sector its.number s.sector l)) (full last)
        ∙ ap (λ (b : Bool). if b then Some (told.Sector its.number s.sector (s.words ++ value ∷ [])) else None) (sym (let at = place in let more = long in let all : (length (s.words ++ value ∷ []) == 128) ≡ true = grind (arith, nat_tests) in all)))

    not_told : n % 128 ≢ 127 → told_data ≡ None
    not_told other = ap (λ (b : Bool). if b then Some (told.Sector its.number s.sector (s.words ++ value ∷ [])) else None) (let at = place in let more = long in let some : (length (s.words ++ value ∷ []) == 128) ≡ false = grind (arith, nat_tests) in some)

    -- more words of it are left
    more_sectors : n % 128 ≡ 127 → n + 1 < 128 * its.count → IsTelling (hand_of next_sector) stored v.ending (n + 1)
    more_sectors last more = record {
      e = k.e;
      ending_is = k.ending_is;
      telling = k.telling;
      at = (let at = k.at in let here = place in omega arith);
      short = omega arith;
      words = none stored;
      within = more;
      pooled = k.pooled;
      entry = k.entry;
      response = k.response;
      taken = k.taken;
    }

    more_words : n % 128 ≢ 127 → n + 1 < 128 * its.count → IsTelling (hand_of grown) stored v.ending (n + 1)
    more_words other more = record {
      e = k.e;
      ending_is = k.ending_is;
      telling = k.telling;
      at = (let at = k.at in let one = long in omega arith);
      short = (let short = k.short in let here = place in let one = long in omega arith);
      words = ap (λ (i : ℕ). take i stored) long ∙ set;
      within = more;
      pooled = k.pooled;
      entry = k.entry;
      response = k.response;
      taken = k.taken;
    }

    -- the front with this word, where it is the last one of its sector and where it isn't
    abbrev filled_as : Bool → View
    filled_as b = if b then record v { words = stored; told = Some told_sector } else record v { words = stored }

    abbrev Fills : View → Type 0
    Fills x = Goes grown told_data x

    at_once : (t : FrontStage) → n % 128 ≡ 127 → Known t next_sector (at t (filled_as true)) → Fills (at t (filled_as true))
    at_once t last known = record { told = same_told last; knows = known }

    later : (t : FrontStage) → n % 128 ≢ 127 → Known t grown (at t (filled_as false)) → Fills (at t (filled_as false))
    later t other known = subst (λ (o : Option Told). Goes grown o (at t (filled_as false))) (sym (not_told other)) (calm grown (at t (filled_as false)) quiet known)

    ended_with : (t : FrontStage) → n % 128 ≡ 127 → Known t next_sector (at t (finished k.e (filled_as true))) → Fills (at t (finished k.e (filled_as true)))
    ended_with t last known = record { told = same_told last; knows = known }

    emptied : IsSized (with_all_free v.pool its.frames.items) stored
    emptied = record { frames = free_size its.frames.items v.pool ∙ sized.frames; sector = sized_after }

    idle : Idle (hand_of next_sector)
    idle = record { entry = k.entry; response = k.response; taken = k.taken; read = refl }

    -- more is left, or that was the last word of all
    left_over : nat_lt (n + 1) (128 * its.count) ≡ true → n + 1 < 128 * its.count
    left_over e = grind (arith, nat_tests)

    all_read : nat_lt (n + 1) (128 * its.count) ≡ false → n % 128 ≡ 127
    all_read e = let past : 128 * its.count ≤ n + 1 = grind (arith, nat_tests) in let within = k.within in omega arith

    abbrev Reads : View → Type 0
    Reads x = Steps s (Read (frame_at its (n / 1024)) (n % 1024)) (answer.Word value) x

    as_read : (x : View) → Fills x → Reads x
    as_read x f = goes s grown (Read (frame_at its (n / 1024)) (n % 1024)) (answer.Word value) told_data x tells reads f

    read_on : (b c : Bool) → (n % 128 == 127) ≡ b → nat_lt (n + 1) (128 * its.count) ≡ c → Fills (if c then at (stage.ReadData (n + 1)) (filled_as b) else finished k.e (filled_as b))
    read_on true true last more = let here : n % 128 ≡ 127 = grind (arith, nat_tests) in at_once (stage.ReadData (n + 1)) here (record { agree = agree; sized = record { frames = sized.frames; sector = sized_after }; at = more_sectors here (left_over more) })
    read_on false true last more = let here : n % 128 ≢ 127 = grind (arith, nat_tests) in later (stage.ReadData (n + 1)) here (record { agree = agree; sized = record { frames = sized.frames; sector = sized_after }; at = more_words here (left_over more) })
    read_on true false last more = ended_with stage.Loop (all_read more) (record { agree = agree; sized = emptied; at = idle })
    read_on false false last more = absurd (let here = all_read more in grind (arith, nat_tests))

    pub data_goes : Reads (data_step (Some k.e) n value v)
    data_goes = as_read (data_step (Some k.e) n value v) (read_on (n % 128 == 127) (nat_lt (n + 1) (128 * its.count)) refl refl)

    left_on : IsAnew (parts_of v) → (b c : Bool) → (n % 128 == 127) ≡ b → nat_lt (n + 1) (128 * its.count) ≡ c → Fills (if c then at (stage.LeftData (n + 1)) (filled_as b) else at (stage.RingWord 0) (finished k.e (filled_as b)))
    left_on anew true true last more = let here : n % 128 ≡ 127 = grind (arith, nat_tests) in at_once (stage.LeftData (n + 1)) here (record { agree = agree; sized = record { frames = sized.frames; sector = sized_after }; at = (anew, more_sectors here (left_over more)) })
    left_on anew false true last more = let here : n % 128 ≢ 127 = grind (arith, nat_tests) in later (stage.LeftData (n + 1)) here (record { agree = agree; sized = record { frames = sized.frames; sector = sized_after }; at = (anew, more_words here (left_over more)) })
    left_on anew true false last more = ended_with (stage.RingWord 0) (all_read more) (record { agree = agree; sized = emptied; at = (omega arith, anew, idle) })
    left_on anew false false last more = absurd (let here = all_read more in grind (arith, nat_tests))

    pub left_goes : IsAnew (parts_of v) → Reads (left_step (Some k.e) n value v)
    left_goes anew = as_read (left_step (Some k.e) n value v) (left_on anew (n % 128 == 127) (nat_lt (n + 1) (128 * its.count)) refl refl)
