-- The mappings in the jobs' hands.
use Rattle.std.proofs.Common.{◌≡◌, ℕ, ◌+◌, ◌≤◌, Bool, true, false, zero, suc, if◌then◌else◌, cond, List, [], ◌∷◌, ◌++◌, take, length, get_or, refl, sym, ap, ◌∙◌, append_assoc, arith, length-append}
use Rattle.std.specs.Prelude.{Option, Some, None, Contains, option_to_list, slice_get, slice_set, remove, position, is_some, not, ◌==◌, nat_le, drop}
use Rattle.std.proofs.lemmas.Bool.{false≢true}
use Rattle.std.proofs.lemmas.Option.{none-some, same_Some, slice_get-get_or}
use Rattle.std.proofs.lemmas.List.{append-nil}
use Rattle.std.proofs.lemmas.List.Concat.{flat_map-append}
use Rattle.std.proofs.lemmas.List.Quantifiers.{position-Some}
use Rattle.std.proofs.lemmas.List.Elements.{Contains-append_left, Contains-append_right}
use Rattle.blk_base.specs.declared.parts.Mapping.{Mapping}
use Rattle.blk_base.specs.declared.parts.Mode.{Mode}
use Rattle.blk_base.specs.declared.parts.Mode.TheVariants.{ReadWrite}
use Rattle.blk_base.specs.declared.operation.Status.TheVariants.{Error}
use Rattle.blk_base.specs.declared.ask.BackAsk.{BackAsk}
use Rattle.blk_base.specs.declared.ask.BackAsk.TheVariants as ask
use Rattle.blk_base.specs.declared.ask.BackAnswer.{BackAnswer}
use Rattle.blk_base.specs.declared.ask.BackAnswer.TheVariants as answer
use Rattle.blk_layout.specs.declared.segment.Segment.{Segment}
use Rattle.blk_layout.specs.Entry.{segment_of}
use Rattle.blk_layout.specs.declared.request.RawRequest.{RawRequest}
use Rattle.blk_layout.specs.declared.request.RawRequest.TheVariants.{Direct, Discard, Indirect}
use Rattle.segment_list.specs.declared.verdict.Verdict.{Verdict}
use Rattle.segment_list.specs.declared.verdict.Verdict.TheVariants as verdict
use Rattle.segment_list.specs.Verdict.{verdict_of}
use Rattle.back_jobs.specs.declared.stage.JobStage.{JobStage}
use Rattle.back_jobs.specs.declared.stage.JobStage.TheVariants as stage
use Rattle.back_jobs.specs.Work.{Work, ask_of, ask_at, map_in, mode_of, page_ask, is_copied_out, passes, judged, page_done, paging, step_of, step_at, sector_stage, next_sector, next_segment, counted, first_of, rest_of, last_of, begun, served, moving, ended, frameless, IsAnswer}
use Rattle.back_jobs.specs.Jobs.{HeldJobs, mapping_at, asked, work_at, told_at, removed_at, is_done, is_done_at, first_mapping, after_mapping, start_job, without_done}
use Rattle.back_jobs.specs.Keeping.{ask_in, ask_with}
use Rattle.back_jobs.specs.Hands.{hand_of, hands_in, Names, HasOneMore, HandsAfter}

-- what is held beside these mappings stays
pub more_framed : (m : Mapping) (xs ys fewer more : List Mapping) → HasOneMore m fewer more → HasOneMore m (xs ++ (fewer ++ ys)) (xs ++ (more ++ ys))
more_framed m xs ys fewer more h = record {
  front = xs ++ h.front;
  rest = h.rest ++ ys;
  without = ap (λ (l : List Mapping). xs ++ (l ++ ys)) h.without ∙ ap (λ (l : List Mapping). xs ++ l) (append_assoc h.front h.rest ys) ∙ sym (append_assoc xs h.front (h.rest ++ ys));
  with_it = ap (λ (l : List Mapping). xs ++ (l ++ ys)) h.with_it ∙ ap (λ (l : List Mapping). xs ++ l) (append_assoc h.front (m ∷ h.rest) ys) ∙ sym (append_assoc xs h.front (m ∷ h.rest ++ ys));
}

pub framed : (a : BackAsk) (given : BackAnswer) (xs ys before after : List Mapping) → HandsAfter a given before after → HandsAfter a given (xs ++ (before ++ ys)) (xs ++ (after ++ ys))
framed (ask.Map gref mode) (answer.Mapped m) xs ys before after h = more_framed m xs ys before after h
framed (ask.Unmap m) answer.Done xs ys before after h = more_framed m xs ys after before h
framed a given xs ys before after h = ap (λ (l : List Mapping). xs ++ (l ++ ys)) h

pub among : (m : Mapping) (xs ys held : List Mapping) → Contains held m → Contains (xs ++ (held ++ ys)) m
among m xs ys held h = Contains-append_right xs (held ++ ys) m (Contains-append_left held ys m h)

-- an ask that names what is held names it among more
pub named_among : (a : BackAsk) (xs ys held : List Mapping) → Names held a → Names (xs ++ (held ++ ys)) a
named_among (ask.Read m word) xs ys held h = (among m xs ys held h.0, h.1)
named_among (ask.Write m word value) xs ys held h = (among m xs ys held h.0, h.1, h.2)
named_among (ask.Unmap m) xs ys held h = among m xs ys held h
named_among a xs ys held h = tt

-- a single mapping
alone : (m : Mapping) → HasOneMore m [] (m ∷ [])
alone m = record { front = []; rest = []; without = refl; with_it = refl }

-- the hand at a stage
abbrev pub hand_at : JobStage → List Mapping
hand_at s = option_to_list (mapping_at s)

pub hand_sector : (writes : Bool) (m : Mapping) → hand_at (sector_stage writes m) ≡ m ∷ []
hand_sector true m = refl
hand_sector false m = refl

map_hands : (rest : List Segment) (mode : Mode) (t : Work) (given : BackAnswer) → IsAnswer (map_in rest mode) given → HandsAfter (map_in rest mode) given [] (hand_of (step_at stage.Map t given))
map_hands [] mode t given h = absurd h
map_hands (s ∷ rest) mode t (answer.Mapped m) h = rw (hand_sector t.writes m) (alone m)
map_hands (s ∷ rest) mode t (answer.MapRefused status) h = refl
map_hands (s ∷ rest) mode t given h = absurd h

either_hand : (b : Bool) (x y : JobStage) (l : List Mapping) → hand_at x ≡ l → hand_at y ≡ l → hand_at (if b then x else y) ≡ l
either_hand true x y l p q = p
either_hand false x y l p q = q

either_hand_of : (b : Bool) (x y : Work) (l : List Mapping) → hand_of x ≡ l → hand_of y ≡ l → hand_of (if b then x else y) ≡ l
either_hand_of true x y l p q = p
either_hand_of false x y l p q = q

-- after a sector its mapping is in hand still
hand_next : (t : Work) (m : Mapping) → hand_of (next_sector t m) ≡ m ∷ []
hand_next t m = either_hand_of (t.within == last_of t.rest) (record t { stage = stage.Unmap m }) (record t { within = t.within + 1; stage = sector_stage t.writes m }) (m ∷ []) refl (hand_sector t.writes m)

-- after a segment no mapping is in hand
pub hand_of_segment : (t : Work) (rest : List Segment) → hand_of (next_segment t rest) ≡ []
hand_of_segment t [] = refl
hand_of_segment t (s ∷ rest) = refl

page_hands : (pages : List ℕ) (t : Work) (given : BackAnswer) → IsAnswer (page_ask pages) given → HandsAfter (page_ask pages) given [] (hand_of (step_at stage.MapPage t given))
page_hands [] t given h = absurd h
page_hands (gref ∷ pages) t (answer.Mapped m) h = alone m
page_hands (gref ∷ pages) t (answer.MapRefused status) h = refl
page_hands (gref ∷ pages) t given h = absurd h

-- after a page no mapping is in hand
hand_judged : (t : Work) → hand_of (judged t) ≡ []
hand_judged t = either_hand_of (passes t) (record t { within = first_of t.rest; stage = stage.Map }) (record t { stage = stage.Done Error }) [] refl refl

hand_of_page : (t : Work) → hand_of (page_done t) ≡ []
hand_of_page t = either_hand_of (length t.rest == t.named) (judged t) (record t { pages = drop 1 t.pages; stage = stage.MapPage }) [] (hand_judged t) refl

hand_step_at : (s : JobStage) (t : Work) (given : BackAnswer) → IsAnswer (ask_at s t) given → HandsAfter (ask_at s t) given (hand_at s) (hand_of (step_at s t given))
hand_step_at stage.MapPage t given h = page_hands t.pages t given h
hand_step_at (stage.PageReference m) t (answer.Word word) h = refl
hand_step_at (stage.PageSectors m gref) t (answer.Word word) h = either_hand (is_copied_out t (t.rest ++ segment_of gref word ∷ [])) (stage.UnmapPage m) (stage.PageReference m) (m ∷ []) refl refl
hand_step_at (stage.UnmapPage m) t answer.Done h = rw (hand_of_page t) (alone m)
hand_step_at stage.Map t given h = map_hands t.rest (mode_of t.writes) t given h
hand_step_at (stage.ReadWord m k) t (answer.Word word) h = either_hand (k == 127) (stage.DiskWrite m) (stage.ReadWord m (k + 1)) (m ∷ []) refl refl
hand_step_at (stage.DiskWrite m) t answer.Done h = hand_next (counted t) m
hand_step_at (stage.DiskWrite m) t answer.DiskFailed h = refl
hand_step_at (stage.DiskRead m) t (answer.Sector words) h = refl
hand_step_at (stage.DiskRead m) t answer.DiskFailed h = refl
hand_step_at (stage.WriteWord m k) t answer.Done h = either_hand_of (k == 127) (next_sector t m) (record t { stage = stage.WriteWord m (k + 1) }) (m ∷ []) (hand_next t m) refl
hand_step_at (stage.Unmap m) t answer.Done h = rw (hand_of_segment t (rest_of t.rest)) (alone m)
hand_step_at (stage.Abort m) t answer.Done h = alone m
hand_step_at stage.Flush t answer.Done h = refl
hand_step_at stage.Flush t answer.DiskFailed h = refl
hand_step_at (stage.Trim count) t answer.Done h = refl
hand_step_at (stage.Trim count) t answer.DiskFailed h = refl
hand_step_at s t given h = absurd h

-- what the answer to a job's ask makes of its hand
pub hand_step : (t : Work) (given : BackAnswer) → IsAnswer (ask_of t) given → HandsAfter (ask_of t) given (hand_of t) (hand_of (step_of t given))
hand_step t given h = hand_step_at t.stage t given h

hand_step_with : (keeps : Bool) (s : JobStage) (t : Work) (given : BackAnswer) → IsAnswer (ask_with keeps s t) given → HandsAfter (ask_with keeps s t) given (hand_at s) (hand_of (step_at s t given))
hand_step_with false s t given h = hand_step_at s t given h
hand_step_with true stage.Map t given h = map_hands t.rest ReadWrite t given h
hand_step_with true s t given h = hand_step_at s t given h

-- also where the mapping may be kept
pub hand_step_in : (keeps : Bool) (t : Work) (given : BackAnswer) → IsAnswer (ask_in keeps t) given → HandsAfter (ask_in keeps t) given (hand_of t) (hand_of (step_of t given))
hand_step_in keeps t given h = hand_step_with keeps t.stage t given h

-- a job stands between others
pub record IsAmong (works : List Work) (place : ℕ) (t : Work) : Type 0 where
  pub front : List Work
  pub rest : List Work
  pub is : works ≡ front ++ t ∷ rest
  pub set : (u : Work) → slice_set works place u ≡ front ++ u ∷ rest
  pub removed : remove works place ≡ front ++ rest

pub place_among : (works : List Work) (place : ℕ) (t : Work) → slice_get works place ≡ Some t → IsAmong works place t
place_among [] place t h = absurd (none-some t h)
place_among (w ∷ works) zero t h = record { front = []; rest = works; is = ap (λ (u : Work). u ∷ works) (same_Some w t h); set = λ u. refl; removed = refl }
place_among (w ∷ works) (suc place) t h =
    let r = place_among works place t h in
    record { front = w ∷ r.front; rest = r.rest; is = ap (λ (l : List Work). w ∷ l) r.is; set = λ u. ap (λ (l : List Work). w ∷ l) (r.set u); removed = ap (λ (l : List Work). w ∷ l) r.removed }

-- the hands of jobs between which one stands
pub hands_between : (front rest : List Work) (t : Work) → hands_in (front ++ t ∷ rest) ≡ hands_in front ++ (hand_of t ++ hands_in rest)
hands_between front rest t = flat_map-append hand_of front (t ∷ rest)

-- what a job names is among all that jobs hold
pub named_in : (works : List Work) (place : ℕ) (t : Work) (a : BackAsk) → slice_get works place ≡ Some t → Names (hand_of t) a → Names (hands_in works) a
named_in works place t a h names =
    let r = place_among works place t h in
    rw (r.is, hands_between r.front r.rest t) (named_among a (hands_in r.front) (hands_in r.rest) (hand_of t) names)

told_between : (front rest works changed : List Work) (t : Work) (given : BackAnswer) → works ≡ front ++ t ∷ rest → changed ≡ front ++ step_of t given ∷ rest → IsAnswer (ask_of t) given → HandsAfter (ask_of t) given (hands_in works) (hands_in changed)
told_between front rest works changed t given is now h =
    rw (is, now, hands_between front rest t, hands_between front rest (step_of t given)) (framed (ask_of t) given (hands_in front) (hands_in rest) (hand_of t) (hand_of (step_of t given)) (hand_step t given h))

-- what the answer to the ask of one job makes of all hands
pub told_hands : (works : List Work) (place : Option ℕ) (waits : Bool) (found : Option Work) (given : BackAnswer) → work_at works place ≡ found → IsAnswer (asked waits found) given → HandsAfter (asked waits found) given (hands_in works) (hands_in (told_at works place found given))
told_hands works place waits None given found h = absurd h
told_hands works place true (Some t) given found h = absurd h
told_hands works None false (Some t) given found h = absurd (none-some t found)
told_hands works (Some place) false (Some t) given found h =
    let r = place_among works place t found in
    told_between r.front r.rest works (slice_set works place (step_of t given)) t given r.is (r.set (step_of t given)) h

-- a job that is done has nothing in its hand
done_at : (s : JobStage) → is_done_at s ≡ true → hand_at s ≡ []
done_at (stage.Done status) h = refl
done_at s h = absurd (false≢true h)

removed_between : (front rest works removed : List Work) (t : Work) → works ≡ front ++ t ∷ rest → removed ≡ front ++ rest → hand_of t ≡ [] → hands_in removed ≡ hands_in works
removed_between front rest works removed t is now none =
    ap hands_in now ∙ flat_map-append hand_of front rest
    ∙ sym (ap hands_in is ∙ hands_between front rest t ∙ ap (λ (l : List Mapping). hands_in front ++ (l ++ hands_in rest)) none)

removed_place : (works : List Work) (place : ℕ) (t : Work) → slice_get works place ≡ Some t → hand_of t ≡ [] → hands_in (remove works place) ≡ hands_in works
removed_place works place t h none =
    let r = place_among works place t h in
    removed_between r.front r.rest works (remove works place) t r.is r.removed none

removed_done : (works : List Work) (place : Option ℕ) → position (λ (t : Work). is_done t) works ≡ place → hands_in (removed_at works place) ≡ hands_in works
removed_done works None h = refl
removed_done [] (Some place) h = absurd (none-some place h)
removed_done (w ∷ works) (Some place) h =
    let p = position-Some (λ (t : Work). is_done t) (w ∷ works) place w h in
    removed_place (w ∷ works) place (get_or (w ∷ works) place w) (slice_get-get_or (w ∷ works) place w p.0) (done_at (get_or (w ∷ works) place w).stage p.1)

-- a reply to a job that is done leaves all hands as they are
pub done_hands : (h : HeldJobs) → hands_in (without_done h).works ≡ hands_in h.works
done_hands h = removed_done h.works (position (λ (t : Work). is_done t) h.works) refl

served_hand : (number : ℕ) (request : RawRequest) (size : ℕ) → hand_of (served number request size) ≡ []
served_hand number (Direct op count device id sector segments) size =
    let request : RawRequest = Direct op count device id sector segments in
    let other = either_hand_of (op == 3) (frameless number request size sector stage.Flush) (ended number request size (stage.Done Error)) [] refl refl in
    either_hand_of (nat_le op 2) (moving number request size (not (op == 0)) sector (take count segments)) _ [] refl other
served_hand number (Discard flag device id sector count) size = refl
served_hand number (Indirect op count device id sector pages) size =
    let request : RawRequest = Indirect op count device id sector pages in
    either_hand_of (nat_le count 960) (paging number request size (not (op == 0)) sector count pages) (ended number request size (stage.Done Error)) [] refl refl

pub begun_hand : (number : ℕ) (request : RawRequest) (size : ℕ) (v : Verdict) → hand_of (begun number request size v) ≡ []
begun_hand number request size (verdict.Serve plan) = served_hand number request size
begun_hand number request size (verdict.Error why) = refl
begun_hand number request size verdict.Unsupported = refl

-- a job that begins has nothing in its hand
pub started_hands : (h : HeldJobs) (number : ℕ) (request : RawRequest) → hands_in (start_job h number request).works ≡ hands_in h.works
started_hands h number request =
    flat_map-append hand_of h.works (begun number request h.info.sectors (verdict_of request h.info) ∷ [])
    ∙ ap (λ (l : List Mapping). hands_in h.works ++ (l ++ [])) (begun_hand number request h.info.sectors (verdict_of request h.info))
    ∙ append-nil (hands_in h.works)

after_at : (m : Option Mapping) (works : List Work) → option_to_list (first_mapping works) ++ hands_in (after_mapping works) ≡ hands_in works → option_to_list (cond (is_some m) m (first_mapping works)) ++ hands_in (cond (is_some m) works (after_mapping works)) ≡ option_to_list m ++ hands_in works
after_at None works h = h
after_at (Some m) works h = refl

-- the first mapping and those after it are all
pub after_hands : (works : List Work) → option_to_list (first_mapping works) ++ hands_in (after_mapping works) ≡ hands_in works
after_hands [] = refl
after_hands (t ∷ works) = after_at (mapping_at t.stage) works (after_hands works)

-- a job has at most one mapping in its hand
few_in_hand : (m : Option Mapping) → length (option_to_list m) ≤ 1
few_in_hand None = omega arith
few_in_hand (Some m) = omega arith

pub few_in_hands : (works : List Work) → length (hands_in works) ≤ length works
few_in_hands [] = omega arith
few_in_hands (t ∷ works) =
    let one = few_in_hand (mapping_at t.stage) in let more = few_in_hands works in
    rw (length-append (hand_of t) (hands_in works)) (omega arith)

few_after_at : (b : Bool) (works : List Work) → length (after_mapping works) ≤ length works → length (cond b works (after_mapping works)) ≤ suc (length works)
few_after_at true works h = omega arith
few_after_at false works h = omega arith

-- no more jobs stand after a mapping than in all
pub few_after : (works : List Work) → length (after_mapping works) ≤ length works
few_after [] = omega arith
few_after (t ∷ works) = few_after_at (is_some (mapping_at t.stage)) works (few_after works)
