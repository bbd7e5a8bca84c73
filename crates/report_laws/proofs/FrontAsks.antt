-- What the front asks has the widths of the grammar.
use Rattle.std.proofs.Common.{ℕ, ◌≡◌, ◌/◌, ◌%◌, ◌^◌, ◌<◌, ◌==◌, ◌||◌, Bool, true, false, if◌then◌else◌, refl, arith}
use Rattle.std.specs.Prelude.{All, Option, Some, None, nat_lt}
use Rattle.std.specs.List.{AllByRecursion}
use Rattle.blk_base.specs.declared.ask.FrontAsk.TheVariants.{Wait, Read}
use Rattle.ring_words.specs.Ring.{next_of, responses_of}
use Rattle.hypervisor.specs.Hypervisor.{Hypervisor}
use Rattle.blk_front.specs.declared.request.Request.{Request}
use Rattle.blk_front.specs.declared.request.Transfer.{Transfer}
use Rattle.blk_front.specs.declared.request.Transfer.TheVariants as transfer
use Rattle.blk_front.specs.declared.stage.FrontStage.{FrontStage}
use Rattle.blk_front.specs.declared.stage.FrontStage.TheVariants as stage
use Rattle.blk_front.specs.declared.stage.Ending.{Ending}
use Rattle.blk_front.specs.Request.{filling_at, frames_for, grant_flags, is_indirect, segment_at, naming_at}
use Rattle.blk_layout.specs.Written.{segment_words_of}
use Rattle.blk_front.specs.Entry.{entry_of}
use Rattle.blk_front.specs.View.{View, fresh_word, next_request, ring_frame, slot_frame, slot_word}
use Rattle.blk_front.specs.Ask.{is_through, ask_at, ask_of, data_ask, page_ask, name_ask, grant_ask, revoke_ask, end_ask, read_ask, issue_ask, loop_ask, StaysInMemory}
use Rattle.split_model.specs.Safe.{IsPorted}
use Rattle.report_laws.proofs.Words.{each_fits}
use Rattle.report_laws.proofs.Acts.{FrontFits}
use Rattle.report_laws.proofs.FrontNumbers.{HasWords, IsFit, AreShared, next_holds, issued_entry}
use Rattle.report_laws.proofs.FrontWords.{flags_few, words_fit}

fresh_fits : (start k : ℕ) → start < 2 ^ 32 → fresh_word start k < 2 ^ 32
fresh_fits start k small = by_tests (k == 0) (k == 1) (k == 2) (k == 3)
  where
    by_tests : (a b c d : Bool) → (if a then start else (if b then next_of start else (if c then start else (if d then next_of start else 0)))) < 2 ^ 32
    by_tests true b c d = small
    by_tests false true c d = omega arith
    by_tests false false true d = small
    by_tests false false false true = omega arith
    by_tests false false false false = omega arith

unvalued : (h : Hypervisor) (a b : Bool) (frame word frame' word' : ℕ) → FrontFits h (if a then Wait else (if b then Read frame word else Read frame' word'))
unvalued h true b frame word frame' word' = tt
unvalued h false true frame word frame' word' = tt
unvalued h false false frame word frame' word' = tt

filling_fits : (way : Transfer) (n : ℕ) → filling_at way n < 2 ^ 32
filling_fits way n = omega arith

data_fits : (h : Hypervisor) (next : Option Request) (n : ℕ) → FrontFits h (data_ask next n)
data_fits h None n = tt
data_fits h (Some r) n = filling_fits r.transfer n

-- the words of its segments, which its indirect pages hold
naming_fits : (r : Request) (n : ℕ) → All (λ (frame : ℕ). frame < 1018) r.frames.items → naming_at r n < 2 ^ 32
naming_fits r n all = each_fits (segment_words_of (segment_at r (n / 2))) (words_fit r (n / 2) all) (n % 2)

page_fits : (h : Hypervisor) (next : Option Request) (n : ℕ) → ((r : Request) → next ≡ Some r → All (λ (frame : ℕ). frame < 1018) r.frames.items) → FrontFits h (page_ask next n)
page_fits h None n shared = tt
page_fits h (Some r) n shared = naming_fits r n (shared r refl)

-- a frame whose entry lies in memory
name_fits : (h : Hypervisor) (next : Option Request) (place : ℕ) → StaysInMemory (name_ask next place) → FrontFits h (name_ask next place)
name_fits h None place within = tt
name_fits h (Some r) place within = let framed = within.0 in omega arith

grant_fits : (h : Hypervisor) (next : Option Request) (place : ℕ) → FrontFits h (grant_ask next place)
grant_fits h None place = tt
grant_fits h (Some r) place = by_place (nat_lt place (frames_for r.count))
  where
    by_place : (b : Bool) → (if b then grant_flags r.transfer else 5) < 2 ^ 32
    by_place true = omega (arith, flags_few r.transfer)
    by_place false = omega arith

revoke_fits : (h : Hypervisor) (ending : Option Ending) (place : ℕ) → FrontFits h (revoke_ask ending place)
revoke_fits h None place = tt
revoke_fits h (Some e) place = tt

end_fits : (h : Hypervisor) (ending : Option Ending) (place before : ℕ) → before < 2 ^ 32 → FrontFits h (end_ask ending place before)
end_fits h None place before few = tt
end_fits h (Some e) place before few = (few, omega arith)

read_fits : (h : Hypervisor) (ending : Option Ending) (n : ℕ) → FrontFits h (read_ask ending n)
read_fits h None n = tt
read_fits h (Some e) n = tt

issue_fits : (h : Hypervisor) (v : View) (r : Request) (way : Transfer) → All (λ (frame : ℕ). frame < 1018) r.frames.items → AllByRecursion (λ (n : ℕ). n < 2 ^ 32) (entry_of v.shape.abi r) → StaysInMemory (issue_ask v r way) → FrontFits h (issue_ask v r way)
issue_fits h v r transfer.Read shared entry within = by_size (is_indirect r.count) within
  where
    by_size : (b : Bool) → StaysInMemory (if b then page_ask (Some r) 0 else name_ask (Some r) 0) → FrontFits h (if b then page_ask (Some r) 0 else name_ask (Some r) 0)
    by_size true within = naming_fits r 0 shared
    by_size false within = name_fits h (Some r) 0 within
issue_fits h v r transfer.Flush shared entry within = each_fits (entry_of v.shape.abi r) entry 0
issue_fits h v r (transfer.Discard sectors) shared entry within = each_fits (entry_of v.shape.abi r) entry 0
issue_fits h v r other shared entry within = filling_fits r.transfer 0

loop_fits : (h : Hypervisor) (v : View) (next : Option Request) → AreShared v.requests → IsFit v → next_request v ≡ next → StaysInMemory (loop_ask v next) → FrontFits h (loop_ask v next)
loop_fits h v (Some r) shared f e within =
    issue_fits h v r r.transfer (next_holds (λ (x : Request). All (λ (frame : ℕ). frame < 1018) x.frames.items) v r shared e) (issued_entry v r f.0.asked shared e) within
loop_fits h v None shared f e within = unvalued h (v.ring.asleep || is_through v) (responses_of v.ring.indices v.ring.seen == 0) ring_frame 2 (slot_frame v.shape v.ring.indices.cons 0) (slot_word v.shape v.ring.indices.cons 0)

asks_at : (h : Hypervisor) (s : FrontStage) (v : View) → AreShared v.requests → IsPorted s h.channels → StaysInMemory (ask_at s v) → HasWords s → IsFit v → FrontFits h (ask_at s v)
asks_at h (stage.RingWord k) v shared ported within words f = fresh_fits v.start k f.0.begins
asks_at h (stage.RingFrame page) v shared ported within words f = let framed = within.0 in omega arith
asks_at h (stage.RingFlags page) v shared ported within words f = omega arith
asks_at h stage.NewPort v shared ported within words f = omega (arith, ported.0)
asks_at h stage.Loop v shared ported within words f = loop_fits h v (next_request v) shared f refl within
asks_at h (stage.Data n) v shared ported within words f = data_fits h (next_request v) n
asks_at h (stage.Pages n) v shared ported within words f = page_fits h (next_request v) n (λ r e. next_holds (λ (x : Request). All (λ (frame : ℕ). frame < 1018) x.frames.items) v r shared e)
asks_at h (stage.GrantFrame place) v shared ported within words f = name_fits h (next_request v) place within
asks_at h (stage.GrantFlags place) v shared ported within words f = grant_fits h (next_request v) place
asks_at h (stage.Slot k) v shared ported within words f = each_fits v.ring.entry f.0.written k
asks_at h stage.Producer v shared ported within words f = omega arith
asks_at h (stage.GrantRead place) v shared ported within words f = revoke_fits h v.ending place
asks_at h (stage.GrantEnd place before) v shared ported within words f = end_fits h v.ending place before words
asks_at h (stage.ReadData n) v shared ported within words f = read_fits h v.ending n
asks_at h (stage.LeftData n) v shared ported within words f = read_fits h v.ending n
asks_at h stage.StoreEvent v shared ported within words f = omega arith
asks_at h (stage.RingEnd page seen) v shared ported within words f = (words, omega arith)
asks_at h s v shared ported within words f = tt

pub front_asks : (h : Hypervisor) (v : View) → AreShared v.requests → IsPorted v.stage h.channels → StaysInMemory (ask_of v) → IsFit v → FrontFits h (ask_of v)
front_asks h v shared ported within f = asks_at h v.stage v shared ported within f.1 f
