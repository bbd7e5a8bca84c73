-- What jobs make of the mappings that are kept: nothing is lost, and what is kept may be used by any job.
use Rattle.std.proofs.Common.{◌≡◌, ℕ, suc, ◌+◌, ◌-◌, Bool, true, false, cond, if◌then◌else◌, List, [], ◌∷◌, ◌++◌, take, length, refl, sym, ap, ◌∙◌, subst, append_assoc, arith}
use Rattle.std.specs.Prelude.{Option, Some, None, All, IsPermutation, option_to_list, slice_get, slice_set, is_some, is_none, not, ◌==◌, nat_eq, drop, remove}
use Rattle.std.specs.Option.{option_map}
use Rattle.std.specs.Map.{lookup, remove_entry}
use Rattle.std.proofs.lemmas.Bool.{false≢true}
use Rattle.std.proofs.lemmas.Option.{none-some, same_Some, get_or_from_slice_get, slice_get_within}
use Rattle.std.proofs.lemmas.List.{append-nil}
use Rattle.std.proofs.lemmas.List.Concat.{flat_map-append}
use Rattle.std.proofs.lemmas.List.Elements.{All-nil, All-tail, All-head, All-cons, All-take, All-drop, All-append, All-set, All-push, All-get_or}
use Rattle.std.proofs.lemmas.List.Sorted.{IsPermutation-refl, IsPermutation-trans, IsPermutation-sym, IsPermutation-append_left, IsPermutation-append_right, IsPermutation-append_comm, IsPermutation-middle, IsPermutation-cons}
use Rattle.blk_base.specs.declared.parts.Mapping.{Mapping}
use Rattle.blk_base.specs.declared.parts.Mode.TheVariants.{ReadWrite}
use Rattle.blk_base.specs.declared.ask.BackAsk.{BackAsk}
use Rattle.blk_base.specs.declared.ask.BackAsk.TheVariants as ask
use Rattle.blk_base.specs.declared.ask.BackAnswer.{BackAnswer}
use Rattle.blk_base.specs.declared.ask.BackAnswer.TheVariants as answer
use Rattle.blk_layout.specs.declared.segment.Segment.{Segment}
use Rattle.blk_layout.specs.declared.request.RawRequest.{RawRequest}
use Rattle.segment_list.specs.declared.verdict.Verdict.{Verdict}
use Rattle.persist_grants.specs.KeptMappings.{KeptMappings, none_kept, may_keep, mapping_for, mappings_of, least_recent, without_least_recent}
use Rattle.persist_grants.specs.PutBack.{handed_out, makes_room, with_mapping, answer_of}
use Rattle.persist_grants.specs.declared.kept.PutBack.TheVariants as PutBack
use Rattle.back_jobs.specs.declared.stage.JobStage.{JobStage}
use Rattle.back_jobs.specs.declared.stage.JobStage.TheVariants as stage
use Rattle.back_jobs.specs.Work.{Work, IsAnswer, map_in, page_ask, begun, step_of, step_at, sector_stage, next_segment, next_sector, judged, passes, counted, is_copied_out, rest_of, last_of, first_of}
use Rattle.back_jobs.specs.Jobs.{HeldJobs, mapping_at, first_mapping, after_mapping}
use Rattle.back_jobs.specs.Hands.{hand_of, hands_in, HasOneMore, HandsAfter, HandsKeep}
use Rattle.back_jobs.specs.Keeping.{ask_with, ask_in, asked_in, begun_with, takes, returned, failed_with, settled_at, settled, IsKeepable, AreKeepable, IsWritableAt, IsKeeping, all_hands}
use Rattle.back_jobs.proofs.Hands.{framed, hand_step_in, hands_between, place_among, begun_hand, after_hands}

module _ (P : ℕ × Mapping → Type 0) (test : ℕ → Bool) where
  all_cond_of : (b : Bool) (e : ℕ × Mapping) (es less : List (ℕ × Mapping)) → P e → All P es → All P less → All P (cond b es (e ∷ less))
  all_cond_of true e es less one all rest = all
  all_cond_of false e es less one all rest = All-cons P e less one rest

  -- without an entry
  all_without : (es : List (ℕ × Mapping)) → All P es → All P (remove_entry test es)
  all_without [] all = all
  all_without (e ∷ es) all = all_cond_of (test e.0) e es (remove_entry test es) (All-head P e es all) (All-tail P e es all) (all_without es (All-tail P e es all))

-- what is found may be kept
found_at : (b : Bool) (gref : ℕ) (e : ℕ × Mapping) (found : Option Mapping) (m : Mapping) → IsKeepable e → (found ≡ Some m → m.mode ≡ ReadWrite) → cond b (Some e.1) found ≡ Some m → m.mode ≡ ReadWrite
found_at true gref e found m one later h = ap (λ (x : Mapping). x.mode) (sym (same_Some e.1 m h)) ∙ one.1
found_at false gref e found m one later h = later h

pub found_keepable : (gref : ℕ) (es : List (ℕ × Mapping)) (m : Mapping) → All IsKeepable es → lookup (nat_eq gref) es ≡ Some m → m.mode ≡ ReadWrite
found_keepable gref [] m all h = absurd (none-some m h)
found_keepable gref (e ∷ es) m all h = found_at (nat_eq gref e.0) gref e (lookup (nat_eq gref) es) m (All-head IsKeepable e es all) (found_keepable gref es m (All-tail IsKeepable e es all)) h

last_keepable : (o : Option (ℕ × Mapping)) (es : List (ℕ × Mapping)) (n : ℕ) → slice_get es n ≡ o → All IsKeepable es → (m : Mapping) → option_map (λ (e : ℕ × Mapping). e.1) o ≡ Some m → m.mode ≡ ReadWrite
last_keepable None es n is all m h = absurd (none-some m h)
last_keepable (Some e) es n is all m h =
    let at = get_or_from_slice_get es n e e is in
    let one : IsKeepable e = subst IsKeepable at (All-get_or IsKeepable es n e (slice_get_within es n e is) all) in
    ap (λ (x : Mapping). x.mode) (sym (same_Some e.1 m h)) ∙ one.1

-- what is kept may be used by any job still
pub keepable_with : (kept : KeptMappings) (m : Mapping) → (may_keep kept ≡ true → m.mode ≡ ReadWrite) → AreKeepable kept → AreKeepable (with_mapping kept m.gref m)
keepable_with kept m writable all = by_test (kept.cap == 0) refl
  where
    by_test : (b : Bool) → (kept.cap == 0) ≡ b → AreKeepable (if b then kept else record kept { entries = (m.gref, m) ∷ take (kept.cap - 1) (remove_entry (nat_eq m.gref) kept.entries) })
    by_test true t = all
    by_test false t = All-cons IsKeepable (m.gref, m) _ (refl, writable (ap not t)) (All-take IsKeepable (kept.cap - 1) _ (all_without IsKeepable (nat_eq m.gref) kept.entries all))

takes_keepable : (kept : KeptMappings) (rest : List Segment) (t : Work) → AreKeepable kept → AreKeepable (takes kept rest t).kept
takes_keepable kept [] t all = all
takes_keepable kept (s ∷ rest) t all = all_without IsKeepable (nat_eq s.gref) kept.entries all

returned_keepable : (out : Option Mapping) (kept : KeptMappings) (t : Work) → AreKeepable kept → AreKeepable (returned out kept t).kept
returned_keepable (Some out) kept t all = all
returned_keepable None kept t all = takes_keepable kept (rest_of t.rest) (next_segment t (rest_of t.rest)) all

settled_keepable : (s : JobStage) (kept : KeptMappings) (t : Work) → (may_keep kept ≡ true → IsWritableAt s) → AreKeepable kept → AreKeepable (settled_at s kept t).kept
settled_keepable stage.Map kept t writable all = takes_keepable kept t.rest t all
settled_keepable (stage.Unmap m) kept t writable all = returned_keepable (handed_out kept m.gref m) (with_mapping kept m.gref m) t (keepable_with kept m writable all)
settled_keepable (stage.Abort m) kept t writable all = keepable_with kept m writable all
settled_keepable s kept t writable all = all

drained_keepable : (kept : KeptMappings) → AreKeepable kept → AreKeepable (without_least_recent kept)
drained_keepable kept all = All-take IsKeepable (length kept.entries - 1) kept.entries all

-- as many may be kept as before
with_cap : (kept : KeptMappings) (gref : ℕ) (m : Mapping) → (with_mapping kept gref m).cap ≡ kept.cap
with_cap kept gref m = by_test (kept.cap == 0)
  where
    by_test : (b : Bool) → (let k : KeptMappings = if b then kept else record kept { entries = (gref, m) ∷ take (kept.cap - 1) (remove_entry (nat_eq gref) kept.entries) } in k.cap) ≡ kept.cap
    by_test true = refl
    by_test false = refl

takes_cap : (kept : KeptMappings) (rest : List Segment) (t : Work) → (takes kept rest t).kept.cap ≡ kept.cap
takes_cap kept [] t = refl
takes_cap kept (s ∷ rest) t = refl

returned_cap : (out : Option Mapping) (kept : KeptMappings) (t : Work) → (returned out kept t).kept.cap ≡ kept.cap
returned_cap (Some out) kept t = refl
returned_cap None kept t = takes_cap kept (rest_of t.rest) (next_segment t (rest_of t.rest))

settled_cap_at : (s : JobStage) (kept : KeptMappings) (t : Work) → (settled_at s kept t).kept.cap ≡ kept.cap
settled_cap_at stage.Map kept t = takes_cap kept t.rest t
settled_cap_at (stage.Unmap m) kept t = returned_cap (handed_out kept m.gref m) (with_mapping kept m.gref m) t ∙ with_cap kept m.gref m
settled_cap_at (stage.Abort m) kept t = with_cap kept m.gref m
settled_cap_at s kept t = refl

pub settled_cap : (kept : KeptMappings) (t : Work) → (settled kept t).kept.cap ≡ kept.cap
settled_cap kept t = settled_cap_at t.stage kept t

-- a mapping that is taken, or handed out, was made for writing too
sector_writable : (writes : Bool) (m : Mapping) → m.mode ≡ ReadWrite → IsWritableAt (sector_stage writes m)
sector_writable true m e = e
sector_writable false m e = e

begun_with_writable : (o : Option Mapping) (t : Work) → ((m : Mapping) → o ≡ Some m → m.mode ≡ ReadWrite) → IsWritableAt t.stage → IsWritableAt (begun_with o t).stage
begun_with_writable None t taken at = at
begun_with_writable (Some m) t taken at = sector_writable t.writes m (taken m refl)

takes_writable : (kept : KeptMappings) (rest : List Segment) (t : Work) → AreKeepable kept → IsWritableAt t.stage → IsWritableAt (takes kept rest t).job.stage
takes_writable kept [] t all at = at
takes_writable kept (s ∷ rest) t all at = begun_with_writable (mapping_for kept s.gref) t (λ m found. found_keepable s.gref kept.entries m all found) at

next_writable : (t : Work) (rest : List Segment) → IsWritableAt (next_segment t rest).stage
next_writable t [] = tt
next_writable t (s ∷ rest) = tt

room_writable : (kept : KeptMappings) (gref : ℕ) (m out : Mapping) → AreKeepable kept → makes_room kept (mapping_for kept gref) ≡ Some out → out.mode ≡ ReadWrite
room_writable kept gref m out all is = by_found (mapping_for kept gref) refl is
  where
    by_full : (b : Bool) → (if b then least_recent kept else None) ≡ Some out → out.mode ≡ ReadWrite
    by_full true h = last_keepable (slice_get kept.entries (length kept.entries - 1)) kept.entries (length kept.entries - 1) refl all out h
    by_full false h = absurd (none-some out h)

    by_found : (o : Option Mapping) → mapping_for kept gref ≡ o → makes_room kept o ≡ Some out → out.mode ≡ ReadWrite
    by_found (Some replaced) found h = ap (λ (x : Mapping). x.mode) (sym (same_Some replaced out h)) ∙ found_keepable gref kept.entries replaced all found
    by_found None found h = by_full (length kept.entries == kept.cap) h

out_writable : (kept : KeptMappings) (m out : Mapping) → m.mode ≡ ReadWrite → AreKeepable kept → handed_out kept m.gref m ≡ Some out → out.mode ≡ ReadWrite
out_writable kept m out writable all is = by_test (kept.cap == 0) is
  where
    by_test : (b : Bool) → (if b then Some m else makes_room kept (mapping_for kept m.gref)) ≡ Some out → out.mode ≡ ReadWrite
    by_test true h = ap (λ (x : Mapping). x.mode) (sym (same_Some m out h)) ∙ writable
    by_test false h = room_writable kept m.gref m out all h

-- what is handed out for a mapping in hand was made as its job needs it
pub out_in_mode : (kept : KeptMappings) (m out : Mapping) (writes : Bool) → PutBack.Out out ≡ answer_of (handed_out kept m.gref m) → (may_keep kept ≡ true → m.mode ≡ ReadWrite) → (writes ≡ false → m.mode ≡ ReadWrite) → AreKeepable kept
    → writes ≡ false → out.mode ≡ ReadWrite
out_in_mode kept m out writes is writable in_mode all reads = by_test (kept.cap == 0) refl (out_is (handed_out kept m.gref m) out is)
  where
    out_is : (o : Option Mapping) (out : Mapping) → PutBack.Out out ≡ answer_of o → o ≡ Some out
    out_is None out h = cc
    out_is (Some other) out h = cc

    by_test : (b : Bool) → (kept.cap == 0) ≡ b → (if b then Some m else makes_room kept (mapping_for kept m.gref)) ≡ Some out → out.mode ≡ ReadWrite
    by_test true t h = ap (λ (x : Mapping). x.mode) (sym (same_Some m out h)) ∙ in_mode reads
    by_test false t h = room_writable kept m.gref m out all h

returned_writable : (o : Option Mapping) (kept : KeptMappings) (t : Work) → ((out : Mapping) → o ≡ Some out → out.mode ≡ ReadWrite) → AreKeepable kept → IsWritableAt (returned o kept t).job.stage
returned_writable (Some out) kept t given all = given out refl
returned_writable None kept t given all = takes_writable kept (rest_of t.rest) (next_segment t (rest_of t.rest)) all (next_writable t (rest_of t.rest))

failed_writable : (o : Option Mapping) (t : Work) → ((out : Mapping) → o ≡ Some out → out.mode ≡ ReadWrite) → IsWritableAt (failed_with o t).stage
failed_writable (Some out) t given = given out refl
failed_writable None t given = tt

settled_writable : (s : JobStage) (kept : KeptMappings) (t : Work) → t.stage ≡ s → may_keep kept ≡ true → IsWritableAt s → AreKeepable kept → IsWritableAt (settled_at s kept t).job.stage
settled_writable stage.Map kept t is keeps at all = takes_writable kept t.rest t all (rw is tt)
settled_writable (stage.Unmap m) kept t is keeps at all = returned_writable (handed_out kept m.gref m) (with_mapping kept m.gref m) t (λ out given. out_writable kept m out at all given) (keepable_with kept m (λ may. at) all)
settled_writable (stage.Abort m) kept t is keeps at all = failed_writable (handed_out kept m.gref m) t (λ out given. out_writable kept m out at all given)
settled_writable s kept t is keeps at all = rw is at

-- so was what a job maps where mappings may be kept
next_sector_writable : (t : Work) (m : Mapping) → m.mode ≡ ReadWrite → IsWritableAt (next_sector t m).stage
next_sector_writable t m e = by_test (t.within == last_of t.rest)
  where
    by_test : (b : Bool) → IsWritableAt (let u : Work = if b then record t { stage = stage.Unmap m } else record t { within = t.within + 1; stage = sector_stage t.writes m } in u.stage)
    by_test true = e
    by_test false = sector_writable t.writes m e

map_writable : (rest : List Segment) (t : Work) (given : BackAnswer) → IsAnswer (map_in rest ReadWrite) given → IsWritableAt (step_at stage.Map t given).stage
map_writable [] t given h = absurd h
map_writable (s ∷ rest) t (answer.Mapped m) h = sector_writable t.writes m h.1
map_writable (s ∷ rest) t (answer.MapRefused status) h = tt
map_writable (s ∷ rest) t given h = absurd h

either_writable : (b : Bool) (x y : Work) → IsWritableAt x.stage → IsWritableAt y.stage → IsWritableAt (if b then x else y).stage
either_writable true x y p q = p
either_writable false x y p q = q

either_stage : (b : Bool) (x y : JobStage) → IsWritableAt x → IsWritableAt y → IsWritableAt (if b then x else y)
either_stage true x y p q = p
either_stage false x y p q = q

judged_writable : (t : Work) → IsWritableAt (judged t).stage
judged_writable t = either_writable (passes t) (record t { within = first_of t.rest; stage = stage.Map }) _ tt tt

page_writable : (pages : List ℕ) (t : Work) (given : BackAnswer) → IsAnswer (page_ask pages) given → IsWritableAt (step_at stage.MapPage t given).stage
page_writable [] t given h = absurd h
page_writable (gref ∷ pages) t (answer.Mapped m) h = tt
page_writable (gref ∷ pages) t (answer.MapRefused status) h = tt
page_writable (gref ∷ pages) t given h = absurd h

pub step_writable : (s : JobStage) (t : Work) (given : BackAnswer) → IsAnswer (ask_with true s t) given → IsWritableAt s → IsWritableAt (step_at s t given).stage
step_writable stage.MapPage t given h at = page_writable t.pages t given h
step_writable (stage.PageReference m) t (answer.Word word) h at = tt
step_writable (stage.PageSectors m gref) t (answer.Word word) h at = either_stage (is_copied_out t _) (stage.UnmapPage m) (stage.PageReference m) tt tt
step_writable (stage.UnmapPage m) t answer.Done h at = either_writable (length t.rest == t.named) (judged t) (record t { pages = drop 1 t.pages; stage = stage.MapPage }) (judged_writable t) tt
step_writable stage.Map t given h at = map_writable t.rest t given h
step_writable (stage.ReadWord m k) t (answer.Word word) h at = either_stage (k == 127) (stage.DiskWrite m) (stage.ReadWord m (k + 1)) at at
step_writable (stage.DiskWrite m) t answer.Done h at = next_sector_writable (counted t) m at
step_writable (stage.DiskWrite m) t answer.DiskFailed h at = at
step_writable (stage.DiskRead m) t (answer.Sector words) h at = at
step_writable (stage.DiskRead m) t answer.DiskFailed h at = at
step_writable (stage.WriteWord m k) t answer.Done h at = either_writable (k == 127) (next_sector t m) (record t { stage = stage.WriteWord m (k + 1) }) (next_sector_writable t m at) at
step_writable (stage.Unmap m) t answer.Done h at = next_writable t (rest_of t.rest)
step_writable (stage.Abort m) t answer.Done h at = tt
step_writable stage.Flush t answer.Done h at = tt
step_writable stage.Flush t answer.DiskFailed h at = tt
step_writable (stage.Trim count) t answer.Done h at = tt
step_writable (stage.Trim count) t answer.DiskFailed h at = tt
step_writable s t given h at = absurd h

-- a job with nothing in its hand
empty_writable : (s : JobStage) → option_to_list (mapping_at s) ≡ [] → IsWritableAt s
empty_writable (stage.ReadWord m k) h = cc
empty_writable (stage.DiskWrite m) h = cc
empty_writable (stage.DiskRead m) h = cc
empty_writable (stage.WriteWord m k) h = cc
empty_writable (stage.Unmap m) h = cc
empty_writable (stage.Abort m) h = cc
empty_writable s h = tt

-- as before, grants are persistent or not
pub settled_may : (kept : KeptMappings) (t : Work) → may_keep (let s = settled kept t in s.kept) ≡ may_keep kept
settled_may kept t = ap (λ (n : ℕ). not (n == 0)) (settled_cap kept t)

-- the mapping of one job's segment
pub writable_at : (works : List Work) (place : ℕ) (t : Work) → slice_get works place ≡ Some t → All (λ (w : Work). IsWritableAt w.stage) works → IsWritableAt t.stage
writable_at works place t here all =
    subst (λ (w : Work). IsWritableAt w.stage) (get_or_from_slice_get works place t t here)
    (All-get_or (λ (w : Work). IsWritableAt w.stage) works place t (slice_get_within works place t here) all)

-- what all jobs keep stays fit to be kept: one is told an answer, and settles
pub told_keeping_all : (kept now : KeptMappings) (works : List Work) (place : ℕ) (t u : Work) (given : BackAnswer) → slice_get works place ≡ Some t → IsAnswer (ask_in (may_keep kept) t) given
    → u ≡ (settled kept (step_of t given)).job → now ≡ (settled kept (step_of t given)).kept → IsKeeping kept works → IsKeeping now (slice_set works place u)
told_keeping_all kept now works place t u given here allowed job is all =
    let s : Work = step_of t given in
    let after : may_keep kept ≡ true → IsWritableAt s.stage = λ may.
    step_writable t.stage t given (subst (λ (b : Bool). IsAnswer (ask_in b t) given) may allowed) (writable_at works place t here (all.writable may)) in
    record {
      keepable = rw is (settled_keepable s.stage kept s after all.keepable);
      writable = λ may.
          let before : may_keep kept ≡ true = sym (settled_may kept s) ∙ (ap (λ (k : KeptMappings). may_keep k) (sym is) ∙ may) in
          All-set (λ (w : Work). IsWritableAt w.stage) works place u (rw job (settled_writable s.stage kept s refl before (after before) all.keepable)) (all.writable before);
    }

-- one more is begun
pub begun_writable : (number : ℕ) (request : RawRequest) (size : ℕ) (v : Verdict) → IsWritableAt (begun number request size v).stage
begun_writable number request size v = empty_writable (begun number request size v).stage (begun_hand number request size v)

pub begun_keeping : (kept now : KeptMappings) (works : List Work) (t u : Work) → IsWritableAt t.stage → u ≡ (settled kept t).job → now ≡ (settled kept t).kept → IsKeeping kept works → IsKeeping now (works ++ u ∷ [])
begun_keeping kept now works t u at job is all = record {
  keepable = rw is (settled_keepable t.stage kept t (λ may. at) all.keepable);
  writable = λ may.
      let may_before : may_keep kept ≡ true = sym (settled_may kept t) ∙ (ap (λ (k : KeptMappings). may_keep k) (sym is) ∙ may) in
      All-push (λ (w : Work). IsWritableAt w.stage) works u (all.writable may_before) (rw job (settled_writable t.stage kept t refl may_before at all.keepable));
}

-- the hand of one job among others, and what is kept
gathered : (front hand rest kept : List Mapping) → IsPermutation ((front ++ (hand ++ rest)) ++ kept) ((front ++ rest) ++ (hand ++ kept))
gathered front hand rest kept =
    let turned : IsPermutation ((hand ++ rest) ++ kept) (rest ++ (hand ++ kept)) =
    subst (IsPermutation ((hand ++ rest) ++ kept)) (append_assoc rest hand kept) (IsPermutation-append_left kept (hand ++ rest) (rest ++ hand) (IsPermutation-append_comm hand rest)) in
    rw (append_assoc front (hand ++ rest) kept, append_assoc front rest (hand ++ kept)) (IsPermutation-append_right front ((hand ++ rest) ++ kept) (rest ++ (hand ++ kept)) turned)

settled_hands : (front hand hand' rest kept kept' : List Mapping) → IsPermutation (hand ++ kept) (hand' ++ kept') → IsPermutation ((front ++ (hand ++ rest)) ++ kept) ((front ++ (hand' ++ rest)) ++ kept')
settled_hands front hand hand' rest kept kept' p =
    let among = IsPermutation-append_right (front ++ rest) (hand ++ kept) (hand' ++ kept') p in
    IsPermutation-trans _ _ _ (gathered front hand rest kept)
    (IsPermutation-trans _ _ _ among (IsPermutation-sym _ _ (gathered front hand' rest kept')))

-- what an answer makes of the hands, and of all that is kept then
one_more : (m : Mapping) (fewer more kept all : List Mapping) → HasOneMore m fewer more → IsPermutation (more ++ kept) all → IsPermutation (m ∷ (fewer ++ kept)) all
one_more m fewer more kept all h p =
    let front : IsPermutation (m ∷ fewer) more = rw (h.without, h.with_it) (IsPermutation-sym _ _ (IsPermutation-middle h.front m h.rest)) in
    IsPermutation-trans _ _ _ (IsPermutation-append_left kept (m ∷ fewer) more front) p

one_less : (m : Mapping) (fewer more kept all : List Mapping) → HasOneMore m fewer more → IsPermutation (fewer ++ kept) all → IsPermutation (more ++ kept) (m ∷ all)
one_less m fewer more kept all h p =
    let front : IsPermutation more (m ∷ fewer) = rw (h.without, h.with_it) (IsPermutation-middle h.front m h.rest) in
    IsPermutation-trans _ _ _ (IsPermutation-append_left kept more (m ∷ fewer) front) (IsPermutation-cons m (fewer ++ kept) all p)

same_hands : (before mid kept all : List Mapping) → mid ≡ before → IsPermutation (mid ++ kept) all → IsPermutation (before ++ kept) all
same_hands before mid kept all e p = subst (λ (l : List Mapping). IsPermutation (l ++ kept) all) e p

pub keep_after : (a : BackAsk) (given : BackAnswer) (before mid kept all : List Mapping) → HandsAfter a given before mid → IsPermutation (mid ++ kept) all → HandsKeep a given (before ++ kept) all
keep_after (ask.Map gref mode) (answer.Mapped m) before mid kept all h p = one_more m before mid kept all h p
keep_after (ask.Unmap m) answer.Done before mid kept all h p = one_less m mid before kept all h p
keep_after a given before mid kept all h p = same_hands before mid kept all h p

-- a job is told an answer, and settles: nothing is lost
told_all : (h : HeldJobs) (place : ℕ) (t u : Work) (now : List Mapping) (keeps : Bool) (given : BackAnswer) → slice_get h.works place ≡ Some t → IsAnswer (ask_in keeps t) given
    → IsPermutation (hand_of (step_of t given) ++ mappings_of h.kept) (hand_of u ++ now) → HandsKeep (ask_in keeps t) given (all_hands h) (hands_in (slice_set h.works place u) ++ now)
told_all h place t u now keeps given here allowed p =
    let r = place_among h.works place t here in
    let moved = framed (ask_in keeps t) given (hands_in r.front) (hands_in r.rest) (hand_of t) (hand_of (step_of t given)) (hand_step_in keeps t given allowed) in
    let settles = settled_hands (hands_in r.front) (hand_of (step_of t given)) (hand_of u) (hands_in r.rest) (mappings_of h.kept) now p in
    let before : hands_in h.works ≡ hands_in r.front ++ (hand_of t ++ hands_in r.rest) = ap hands_in r.is ∙ hands_between r.front r.rest t in
    let after : hands_in (slice_set h.works place u) ≡ hands_in r.front ++ (hand_of u ++ hands_in r.rest) = ap hands_in (r.set u) ∙ hands_between r.front r.rest u in
    subst (λ (l : List Mapping). HandsKeep (ask_in keeps t) given (l ++ mappings_of h.kept) (hands_in (slice_set h.works place u) ++ now)) (sym before)
    (subst (λ (l : List Mapping). HandsKeep (ask_in keeps t) given ((hands_in r.front ++ (hand_of t ++ hands_in r.rest)) ++ mappings_of h.kept) (l ++ now)) (sym after)
    (keep_after (ask_in keeps t) given _ _ (mappings_of h.kept) _ moved settles))

pub told_nothing_lost : (h : HeldJobs) (place : ℕ) (t u : Work) (now : List Mapping) (keeps held : Bool) (given : BackAnswer) → slice_get h.works place ≡ Some t → IsAnswer (asked_in keeps held (Some t)) given
    → IsPermutation (hand_of (step_of t given) ++ mappings_of h.kept) (hand_of u ++ now) → HandsKeep (asked_in keeps held (Some t)) given (all_hands h) (hands_in (slice_set h.works place u) ++ now)
told_nothing_lost h place t u now keeps true given here allowed p = absurd allowed
told_nothing_lost h place t u now keeps false given here allowed p = told_all h place t u now keeps given here allowed p

-- one is begun
pub begun_nothing_lost : (works : List Work) (u : Work) (kept now : List Mapping) → IsPermutation kept (hand_of u ++ now) → IsPermutation (hands_in works ++ kept) (hands_in (works ++ u ∷ []) ++ now)
begun_nothing_lost works u kept now p =
    let all : hands_in (works ++ u ∷ []) ++ now ≡ hands_in works ++ (hand_of u ++ now) =
    ap (λ (l : List Mapping). l ++ now) (flat_map-append hand_of works (u ∷ []) ∙ ap (λ (l : List Mapping). hands_in works ++ l) (append-nil (hand_of u)))
    ∙ append_assoc (hands_in works) (hand_of u) now in
    subst (IsPermutation (hands_in works ++ kept)) (sym all) (IsPermutation-append_right (hands_in works) kept (hand_of u ++ now) p)

-- what is given up goes, and nothing else
pub given_hand : (h : HeldJobs) (given : Option Mapping) → first_mapping h.works ≡ given → is_none given ≡ false → IsPermutation (all_hands h) (option_to_list given ++ (hands_in (after_mapping h.works) ++ mappings_of h.kept))
given_hand h None e some = absurd (false≢true (sym some))
given_hand h (Some m) e some =
    let all : hands_in h.works ≡ m ∷ hands_in (after_mapping h.works) = sym (after_hands h.works) ∙ ap (λ (o : Option Mapping). option_to_list o ++ hands_in (after_mapping h.works)) e in
    subst (IsPermutation (all_hands h)) (ap (λ (l : List Mapping). l ++ mappings_of h.kept) all) (IsPermutation-refl (all_hands h))

pub given_kept : (h : HeldJobs) (out now : List Mapping) → first_mapping h.works ≡ None → mappings_of h.kept ≡ now ++ out → IsPermutation (all_hands h) (out ++ (hands_in (after_mapping h.works) ++ now))
given_kept h out now e kept =
    let all : hands_in h.works ≡ hands_in (after_mapping h.works) = sym (after_hands h.works) ∙ ap (λ (o : Option Mapping). option_to_list o ++ hands_in (after_mapping h.works)) e in
    let whole : all_hands h ≡ (hands_in (after_mapping h.works) ++ now) ++ out =
    ap (λ (l : List Mapping). l ++ mappings_of h.kept) all ∙ (ap (λ (l : List Mapping). hands_in (after_mapping h.works) ++ l) kept ∙ sym (append_assoc (hands_in (after_mapping h.works)) now out)) in
    rw whole (IsPermutation-append_comm (hands_in (after_mapping h.works) ++ now) out)

after_keeping_at : (b : Bool) (works : List Work) → All (λ (t : Work). IsWritableAt t.stage) works → All (λ (t : Work). IsWritableAt t.stage) (after_mapping works) → All (λ (t : Work). IsWritableAt t.stage) (cond b works (after_mapping works))
after_keeping_at true works all less = all
after_keeping_at false works all less = less

-- of those that are left all is as before
after_writable : (works : List Work) → All (λ (t : Work). IsWritableAt t.stage) works → All (λ (t : Work). IsWritableAt t.stage) (after_mapping works)
after_writable [] all = all
after_writable (t ∷ works) all =
    let rest = All-tail (λ (u : Work). IsWritableAt u.stage) t works all in
    after_keeping_at (is_some (mapping_at t.stage)) works rest (after_writable works rest)

-- one that is done is removed
pub removed_keeping : (kept : KeptMappings) (works : List Work) (place : ℕ) → IsKeeping kept works → IsKeeping kept (remove works place)
removed_keeping kept works place all = record {
  keepable = all.keepable;
  writable = λ may.
      let each = all.writable may in
      All-append (λ (w : Work). IsWritableAt w.stage) _ _ (All-take (λ (w : Work). IsWritableAt w.stage) place works each) (All-drop (λ (w : Work). IsWritableAt w.stage) (suc place) works each);
}

-- jobs are abandoned, and a mapping that is kept is given up
pub given_keeping : (kept : KeptMappings) (works : List Work) → IsKeeping kept works → IsKeeping kept (after_mapping works)
given_keeping kept works all = record { keepable = all.keepable; writable = λ may. after_writable works (all.writable may) }

-- no mapping is kept, and no job is held
pub none_keeping : (cap : ℕ) (works : List Work) → length works ≡ 0 → IsKeeping (none_kept cap) works
none_keeping cap [] none = record { keepable = All-nil IsKeepable; writable = λ may. All-nil (λ (t : Work). IsWritableAt t.stage) }
none_keeping cap (t ∷ works) none = absurd (omega arith)

pub drained_keeping : (kept : KeptMappings) (works : List Work) → IsKeeping kept works → IsKeeping (without_least_recent kept) works
drained_keeping kept works all = record { keepable = drained_keepable kept all.keepable; writable = all.writable }
