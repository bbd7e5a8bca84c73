-- The front's requests in order of number after a suspend and beside the one that is ending, and what is true of the front then.
use Rattle.std.proofs.Common.{◌≡◌, ◌≢◌, ℕ, ◌+◌, ◌-◌, ◌%◌, ◌^◌, ◌<◌, ◌≤◌, ◌⊎◌, inl, inr, List, [], ◌∷◌, ◌++◌, length, get_or, refl, sym, ap, ◌∙◌, subst, arith}
use Rattle.std.specs.Prelude.{false, Option, Some, None, All, IfSome, remove}
use Rattle.std.proofs.lemmas.Bool.{cases_lt}
use Rattle.std.proofs.lemmas.List.{get_or_default}
use Rattle.std.proofs.lemmas.List.Edits.{length-remove, get_or-remove_below, get_or-remove_above}
use Rattle.std.proofs.lemmas.List.Elements.{All-push}
use Rattle.resume_shadow.proofs.Order.{all_by_number, one_more, ascending_by_number}
use Rattle.blk_front.proofs.Numbers.{remove_all}
use Rattle.blk_front.specs.declared.request.Request.{Request}
use Rattle.blk_front.specs.declared.stage.Ending.{Ending}
use Rattle.blk_front.specs.Sound.{AreAscending, IsApart, IsPlaced, IsKeeping, IsUnissued, IsIssuing, IsReading, IsHeld, IsSound}
use Rattle.blk_front.specs.declared.stage.FrontStage.{FrontStage}
use Rattle.blk_front.specs.declared.stage.FrontStage.TheVariants as stage
use Rattle.blk_front.specs.Inside.{held}
use Rattle.blk_front.specs.Request.{IsShaped}
use Rattle.blk_front.specs.Submit.{ending_of}
use Rattle.blk_front.specs.declared.state.FrontState.TheVariants.{Agreed}
use Rattle.blk_front.specs.State.{in_state}
use Rattle.blk_front.specs.View.{View}
use Rattle.blk_front.specs.Suspend.{with_ending, requests_after, ending_after, stage_after, resumed}
use Rattle.blk_base.specs.Distance.{distance_of}
use Rattle.ring_words.specs.Shape.{Shape, entries_of}

-- the one that was taken from them has a number of its own
pub removed_apart : (l : List Request) (e : Ending) (place last : ℕ) → place < length l → AreAscending l → All (λ (s : Request). s.number ≤ last) l → e.request ≡ get_or l place e.request → IsApart (remove l place) last e
removed_apart l e place last within up given is = record {
  given = let low = given place e.request within in let number = ap (λ (r : Request). r.number) is in omega arith;
  other = λ k d lt same. (
      let shorter = length-remove l place within in
      let taken : e.request.number ≡ (get_or l place d).number = ap (λ (r : Request). r.number) (is ∙ get_or_default l place e.request d within) in
      by_place k d same taken (cases_lt k place) (omega arith));
}
  where
    by_place : (k : ℕ) (d : Request) → (get_or (remove l place) k d).number ≡ e.request.number → e.request.number ≡ (get_or l place d).number → (k < place) ⊎ (place ≤ k) → k + 1 < length l → ⊥
    by_place k d same taken (inl below) lt =
        let there = ap (λ (r : Request). r.number) (get_or-remove_below l place d k below within) in
        let less = up k place d below within in omega arith
    by_place k d same taken (inr above) lt =
        let there = ap (λ (r : Request). r.number) (get_or-remove_above l place d k above within) in
        let less = up place (k + 1) d (omega arith) lt in omega arith

-- where another ends, none of those that are left is the one that is ending
pub still_apart : (ending : Option Ending) (l : List Request) (place last : ℕ) → IfSome ending (IsApart l last) → IfSome ending (IsApart (remove l place) last)
still_apart None l place last apart = tt
still_apart (Some e) l place last apart = record { given = apart.given; other = remove_all (λ (r : Request). r.number ≢ e.request.number) l place apart.other }

-- and one with the next number is another
pub pushed_apart : (ending : Option Ending) (l : List Request) (r : Request) (last : ℕ) → IfSome ending (IsApart l last) → r.number ≡ last + 1 → IfSome ending (IsApart (l ++ r ∷ []) (last + 1))
pushed_apart None l r last apart next = apart
pushed_apart (Some e) l r last apart next = record {
  given = let low = apart.given in omega arith;
  other = All-push (λ (s : Request). s.number ≢ e.request.number) l r apart.other (λ same. let low = apart.given in omega arith);
}

abbrev number : Request → ℕ
number r = r.number

-- the front's requests after a suspend, and how they go together
with_ending_counted : (ending : Option Ending) (l : List Request) → length (with_ending ending l) + 0 ≡ length l + held ending
with_ending_counted None l = refl
with_ending_counted (Some e) l = omega (arith, one_more number e.request l)

pub after_counted : (s : FrontStage) (ending : Option Ending) (l : List Request) → length (requests_after s ending l) + held (ending_after s ending) ≡ length l + held ending
after_counted (stage.GrantRead place) ending l = with_ending_counted ending l
after_counted (stage.GrantEnd place before) ending l = with_ending_counted ending l
after_counted s ending l = refl

with_ending_fits : (ending : Option Ending) (l : List Request) (n : ℕ) → length l + 1 ≤ n → length (with_ending ending l) + 0 ≤ n
with_ending_fits None l n fits = omega arith
with_ending_fits (Some e) l n fits = omega (arith, one_more number e.request l)

pub after_fits : (s : FrontStage) (ending : Option Ending) (l : List Request) (n : ℕ) → length l + ending_of s ≤ n → length (requests_after s ending l) + ending_of (stage_after s) ≤ n
after_fits (stage.GrantRead place) ending l n fits = with_ending_fits ending l n fits
after_fits (stage.GrantEnd place before) ending l n fits = with_ending_fits ending l n fits
after_fits s ending l n fits = fits

after_placed : (s : FrontStage) (shape : Shape) → IsPlaced s shape → IsPlaced (stage_after s) shape
after_placed (stage.ReadData n) shape h = h
after_placed (stage.LeftData n) shape h = h
after_placed s shape h = omega arith

after_keeping : (s : FrontStage) → IsKeeping (stage_after s) false
after_keeping (stage.ReadData n) = tt
after_keeping (stage.LeftData n) = tt
after_keeping s = tt

after_issuing : (s : FrontStage) (n : ℕ) → IsIssuing (stage_after s) n
after_issuing (stage.ReadData n) m = tt
after_issuing (stage.LeftData n) m = tt
after_issuing s m = tt

after_unissued : (s : FrontStage) (n : ℕ) → IsUnissued (stage_after s) n n
after_unissued (stage.ReadData n) m = refl
after_unissued (stage.LeftData n) m = refl
after_unissued s m = refl

after_reading : (s : FrontStage) (n : ℕ) → IsReading (stage_after s) n
after_reading (stage.ReadData n) m = tt
after_reading (stage.LeftData n) m = tt
after_reading s m = tt

with_ending_ascends : (ending : Option Ending) (l : List Request) (last : ℕ) → AreAscending l → IfSome ending (IsApart l last) → AreAscending (with_ending ending l)
with_ending_ascends None l last up apart = up
with_ending_ascends (Some e) l last up apart = ascending_by_number number e.request l up apart.other

pub after_ascending : (s : FrontStage) (ending : Option Ending) (l : List Request) (last : ℕ) → AreAscending l → IfSome ending (IsApart l last) → AreAscending (requests_after s ending l)
after_ascending (stage.GrantRead place) ending l last up apart = with_ending_ascends ending l last up apart
after_ascending (stage.GrantEnd place before) ending l last up apart = with_ending_ascends ending l last up apart
after_ascending s ending l last up apart = up

with_ending_all : (P : Request → Type 0) (ending : Option Ending) (l : List Request) → IfSome ending (λ (e : Ending). P e.request) → All P l → All P (with_ending ending l)
with_ending_all P None l h all = all
with_ending_all P (Some e) l h all = all_by_number number P e.request l h all

pub after_all : (P : Request → Type 0) (s : FrontStage) (ending : Option Ending) (l : List Request) → IfSome ending (λ (e : Ending). P e.request) → All P l → All P (requests_after s ending l)
after_all P (stage.GrantRead place) ending l h all = with_ending_all P ending l h all
after_all P (stage.GrantEnd place before) ending l h all = with_ending_all P ending l h all
after_all P s ending l h all = all

pub after_ending : (Q : Ending → Type 0) (s : FrontStage) (ending : Option Ending) → IfSome ending Q → IfSome (ending_after s ending) Q
after_ending Q (stage.GrantRead place) ending h = tt
after_ending Q (stage.GrantEnd place before) ending h = tt
after_ending Q s ending h = h

after_held : (s : FrontStage) (ending : Option Ending) → IsHeld s ending → IsHeld (stage_after s) (ending_after s ending)
after_held (stage.ReadData n) ending h = h
after_held (stage.LeftData n) ending h = h
after_held s ending h = tt

after_apart : (s : FrontStage) (ending : Option Ending) (l : List Request) (last : ℕ) → IfSome ending (IsApart l last) → IfSome (ending_after s ending) (IsApart (requests_after s ending l) last)
after_apart (stage.GrantRead place) ending l last h = tt
after_apart (stage.GrantEnd place before) ending l last h = tt
after_apart s ending l last h = h

given_of : (ending : Option Ending) (l : List Request) (last : ℕ) → IfSome ending (IsApart l last) → IfSome ending (λ (e : Ending). e.request.number ≤ last)
given_of None l last h = h
given_of (Some e) l last h = h.given

same_distance : (start : ℕ) → start < 2 ^ 32 → distance_of start start ≡ 0
same_distance start word = ap (λ n. n % 2 ^ 32) (whole start word) ∙ refl
  where
    whole : (start : ℕ) → start < 2 ^ 32 → start + (2 ^ 32 - start) ≡ 2 ^ 32
    whole start word = omega arith

-- what is true of a front at every moment is true of it after a suspend
pub resumed_sound : (v : View) → v.start < 2 ^ 32 → IsSound v → IsSound (resumed v)
resumed_sound v word sound = record {
  order = sound.order;
  entries = refl;
  cons = word;
  counted = omega (arith, same_distance v.start word);
  room = after_fits v.stage v.ending v.requests (entries_of v.shape.order) sound.room;
  seen = omega arith;
  placed = after_placed v.stage v.shape sound.placed;
  keeping = after_keeping v.stage;
  unissued = after_unissued v.stage (length (requests_after v.stage v.ending v.requests));
  issuing = after_issuing v.stage (length (requests_after v.stage v.ending v.requests));
  reading = after_reading v.stage (distance_of v.start v.start);
  ascending = after_ascending v.stage v.ending v.requests v.last sound.ascending sound.apart;
  given = after_all (λ (r : Request). r.number ≤ v.last) v.stage v.ending v.requests (given_of v.ending v.requests v.last sound.apart) sound.given;
  shaped = after_all IsShaped v.stage v.ending v.requests sound.ending sound.shaped;
  held = after_held v.stage v.ending sound.held;
  ending = after_ending (λ (e : Ending). IsShaped e.request) v.stage v.ending sound.ending;
  apart = after_apart v.stage v.ending v.requests v.last sound.apart;
}

-- and of one that agrees an order, before its ring is begun
pub agreed_sound : (v : View) (order : ℕ) → v.stage ≡ stage.RingWord 0 → v.start < 2 ^ 32 → order ≤ v.shape.order → length v.requests ≤ entries_of order → IsSound v → IsSound (in_state (Agreed order) v)
agreed_sound v order at word within room sound = record {
  order = let few = sound.order in omega arith;
  entries = refl;
  cons = word;
  counted = omega (arith, same_distance v.start word, waiting);
  room = subst (λ (s : FrontStage). length v.requests + ending_of s ≤ entries_of order) (sym at) (omega arith);
  seen = omega arith;
  placed = subst (λ (s : FrontStage). IsPlaced s (record v.shape { order = order })) (sym at) (omega arith);
  keeping = sound.keeping;
  unissued = sound.unissued;
  issuing = sound.issuing;
  reading = subst (λ (s : FrontStage). IsReading s (distance_of v.start v.start)) (sym at) tt;
  ascending = sound.ascending;
  given = sound.given;
  shaped = sound.shaped;
  held = sound.held;
  ending = sound.ending;
  apart = sound.apart;
}
  where
    waiting : length v.requests ≡ v.waiting
    waiting = subst (λ (s : FrontStage). IsUnissued s (length v.requests) v.waiting) at sound.unissued
