-- The words of a sector that a job asks for one after another, as the numbers that C reads, and many answers at once.
use Rattle.std.specs.Prelude.{◌≡◌, ℕ, Bool, true, false, not, ◌&&◌, List, [], ◌++◌, length, take, drop, fold, min, IsPermutation, Option, Some, None, is_some, if◌then◌else◌, ◌==◌, nat_le}
use Rattle.std.specs.Option.{IsSomeAnd}
use Rattle.blk_base.specs.declared.ask.BackAsk.{BackAsk}
use Rattle.blk_base.specs.declared.ask.BackAnswer.{BackAnswer}
use Rattle.back_jobs.specs.declared.part.SectorPart.{SectorPart}
use Rattle.blk_back.specs.Hands.{all_hands_of}
use Rattle.vbd_back.specs.Part.{job_part, job_values}
use Rattle.vbd_c.specs.declared.part.PartNumbers.{PartNumbers}
use Rattle.vbd_c.specs.declared.status.Status.{Status}
use Rattle.vbd_c.specs.declared.status.Status.TheVariants as status
use Rattle.vbd_c.specs.View.{View}
use Rattle.vbd_c.specs.Move.{ask_of, answered}

abbrev pub numbers_of_part : SectorPart → PartNumbers
numbers_of_part part = record { mapping = part.mapping.number; gref = part.mapping.gref; word = part.word; count = part.count; writes = part.writes }

-- what a job asks for; the back itself, job 0, asks for one thing at a time
abbrev pub part_of : View → ℕ → Option SectorPart
part_of v job = if job == 0 then None else job_part v.back.ends job

-- what is to be written to it
abbrev pub values_of : View → ℕ → List ℕ
values_of v job = if job == 0 then [] else job_values v.back.ends job

-- as many of these values as there is room for
abbrev pub copied_values : List ℕ → List ℕ → ℕ
copied_values values words = min (length values) (length words)

abbrev pub values_copied : List ℕ → List ℕ → List ℕ
values_copied values words = take (copied_values values words) values ++ drop (copied_values values words) words

-- so many words of a part may be answered as read, or as written
abbrev pub takes : Option SectorPart → (writes : Bool) → ℕ → Bool
takes None writes count = false
takes (Some part) true count = part.writes && nat_le count part.count
takes (Some part) false count = not part.writes && nat_le count part.count

-- single answers, one after another, and what is asked after them
abbrev pub answered_each : View → ℕ → List BackAnswer → View
answered_each v job answers = fold (λ (w : View) a. answered w job a) v answers

abbrev pub asked_after : View → ℕ → List BackAnswer → BackAsk
asked_after v job answers = ask_of (answered_each v job answers) job

-- answers to so many words of a part: that many single ones, or nothing changes
abbrev pub part_answered : View → ℕ → (writes : Bool) → ℕ → List BackAnswer → View
part_answered v job writes count answers =
    if is_some v.told then v else (if takes (part_of v job) writes count then answered_each v job answers else v)

abbrev pub part_status : View → ℕ → (writes : Bool) → ℕ → Status
part_status v job writes count =
    if is_some v.told then status.Untold else (if takes (part_of v job) writes count then status.Done else status.NotAllowed)

-- where there is a back
abbrev pub part_in : Option View → ℕ → Option SectorPart
part_in None job = None
part_in (Some v) job = part_of v job

abbrev pub values_in : Option View → ℕ → List ℕ
values_in None job = []
values_in (Some v) job = values_of v job

abbrev pub part_numbers : Option SectorPart → PartNumbers → PartNumbers
part_numbers None before = before
part_numbers (Some part) before = numbers_of_part part

abbrev pub part_answered_in : Option View → ℕ → (writes : Bool) → ℕ → List BackAnswer → Option View
part_answered_in None job writes count answers = None
part_answered_in (Some v) job writes count answers = Some (part_answered v job writes count answers)

abbrev pub part_status_in : Option View → ℕ → (writes : Bool) → ℕ → Status
part_status_in None job writes count = status.Empty
part_status_in (Some v) job writes count = part_status v job writes count

-- in the words of the part: what it doesn't allow (`IsAllowed`) changes nothing, and what it does, where nothing is left to tell, is that many single answers, by which no mapping comes or goes
pub record ArePartAnswered (v : View) (job : ℕ) (IsAllowed : SectorPart → Type 0) (answers : List BackAnswer) (after : View) : Type 0 where
  pub refused : ¬ (IsSomeAnd (part_of v job) IsAllowed) → after ≡ v
  pub taken : v.told ≡ None → IsSomeAnd (part_of v job) IsAllowed → after ≡ answered_each v job answers
  pub hands : IsPermutation (all_hands_of v.back.ends.ring) (all_hands_of after.back.ends.ring)
  pub untold : after.told ≡ v.told

abbrev pub PartAnsweredIn : Option View → ℕ → (IsAllowed : SectorPart → Type 0) → List BackAnswer → Option View → Type 0
PartAnsweredIn None job IsAllowed answers after = after ≡ None
PartAnsweredIn (Some v) job IsAllowed answers None = ⊥
PartAnsweredIn (Some v) job IsAllowed answers (Some after) = ArePartAnswered v job IsAllowed answers after
