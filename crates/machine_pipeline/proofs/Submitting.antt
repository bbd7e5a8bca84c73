-- An accepted submission: the front has one request more, and so has the pipeline.
use Rattle.std.proofs.lemmas.Bool.{cases_Bool}
use Rattle.machine_pipeline.proofs.Issuing.{IsIdle, idle}
use Rattle.std.proofs.Common.{◌⊎◌, ◌≡◌, ◌≢◌, ℕ, ◌+◌, ◌-◌, ◌<◌, ◌≤◌, ◌==◌, false, List, [], ◌∷◌, ◌++◌, length, get_or, refl, inl, inr, arith}
use Rattle.std.specs.Prelude.{All, Option, Some, None, slice_get, if◌then◌else◌}
use Rattle.std.proofs.lemmas.Bool.Decides.{nat_tests}
use Rattle.std.proofs.lemmas.Option.{none-some, slice_get_within}
use Rattle.std.proofs.lemmas.List.Elements.{All-push}
use Rattle.ring_words.specs.Ring.{Ring}
use Rattle.grant_table.specs.declared.held.Held.{Held}
use Rattle.blk_front.specs.declared.request.Request.{Request}
use Rattle.blk_front.specs.Request.{frames_for}
use Rattle.blk_front.specs.declared.stage.FrontStage.{FrontStage}
use Rattle.blk_front.specs.declared.stage.FrontStage.TheVariants as front
use Rattle.blk_back.specs.declared.stage.Reply.{Reply}
use Rattle.blk_back.specs.declared.stage.BackStage.{BackStage}
use Rattle.blk_back.specs.declared.stage.BackStage.TheVariants as back
use Rattle.machine_pipeline.proofs.Flow.{Flow, is_issuing}
use Rattle.machine_pipeline.proofs.Holds.{AreSubmitted, AreIndices, FrontAt, AreSlots, IsFilled, IsGranted, AreEntries, AreReplies, IsReplying, BackAt, IsNextAt, IsEndingAt}
use Rattle.machine_pipeline.proofs.HoldsWorks.{AreWorks}
use Rattle.ring_words.specs.Shape.{entries_of, Shape}
use Rattle.machine_pipeline.proofs.Series.{IsSeries, among_was, numbered_grown}
use Rattle.machine_pipeline.proofs.Lists.{get_append}
use Rattle.machine_pipeline.proofs.Growing.{longer, push_was}
use Rattle.back_jobs.specs.Work.{Work}
use Rattle.blk_front.specs.declared.stage.Ending.{Ending}

-- one more was submitted
abbrev pub submitted_flow : Flow → Request → Flow
submitted_flow g x = record g { submitted = g.submitted ++ x ∷ []; series = g.series ++ x ∷ [] }

pub indices_more : (g : Flow) (x : Request) (front_ring back_ring : Ring) (front_seen back_seen number last waiting unfinished unfinished' ending : ℕ)
    → unfinished' ≡ unfinished + 1 → last ≢ 4294967295 → unfinished + ending < entries_of g.shape.order
    → AreIndices g front_ring back_ring front_seen back_seen number last waiting unfinished ending
    → AreIndices (submitted_flow g x) front_ring back_ring front_seen back_seen number (last + 1) (waiting + 1) unfinished' ending
indices_more g x front_ring back_ring front_seen back_seen number last waiting unfinished unfinished' ending more unspent free h =
    let long = longer g.series x in omega (arith, h, more)

-- the request that is issued next stays that one
pub next_more : (requests : List Request) (waiting : ℕ) (x r : Request)
    → (if waiting == 0 then None else slice_get requests (length requests - waiting)) ≡ Some r
    → (if waiting + 1 == 0 then None else slice_get (requests ++ x ∷ []) (length (requests ++ x ∷ []) - (waiting + 1))) ≡ Some r
next_more requests waiting x r e = elim (cases_Bool (waiting == 0)) [
  | inl t ↦ absurd (none-some r (rw t at e))
  | inr f ↦
      let some : (waiting + 1 == 0) ≡ false = grind (arith, nat_tests) in
      let place : length (requests ++ x ∷ []) - (waiting + 1) ≡ length requests - waiting = omega (arith, longer requests x) in
      rw (some, place) (get_append requests (x ∷ []) (length requests - waiting) r (rw f at e))
]

-- of the request that is issued next, and of the one that is ending, the same is known
next_grown : {next next' : Option Request} {P : Request → Type 0} → ((r : Request) → next ≡ Some r → next' ≡ Some r) → IsNextAt next P → IsNextAt next' P
next_grown stays h = (h.0, stays h.0 h.1, h.2)

ending_grown : {submitted : List Request} {replies : List Reply} {ending : Option Ending} {P : Ending → Type 0} (x : Request) → IsEndingAt submitted replies ending P
    → IsEndingAt (submitted ++ x ∷ []) replies ending P
ending_grown {submitted} x h = let e : Ending = h.0 in let was = h.2 in
    (e, h.1, record { known = get_append submitted (x ∷ []) (e.request.number - 1) e.request was.known; positive = was.positive; alone = was.alone }, h.3)

pub front_at_grown : (shape : Shape) (start pushed taken front_seen : ℕ) (submitted : List Request) (replies : List Reply) (next next' : Option Request) (entry : List ℕ) (ending : Option Ending) (x : Request) (s : FrontStage)
    → ((r : Request) → next ≡ Some r → next' ≡ Some r)
    → FrontAt shape start pushed taken front_seen submitted replies next entry ending s
    → FrontAt shape start pushed taken front_seen (submitted ++ x ∷ []) replies next' entry ending s
front_at_grown shape start pushed taken front_seen submitted replies next next' entry ending x front.Loop stays h = tt
front_at_grown shape start pushed taken front_seen submitted replies next next' entry ending x s stays h = first_of (assumption, search next_grown, search ending_grown)

-- nothing of a request is begun where none waits
pub unissued : (shape : Shape) (start pushed taken front_seen : ℕ) (submitted : List Request) (replies : List Reply) (next : Option Request) (entry : List ℕ) (ending : Option Ending) (s : FrontStage)
    → next ≡ None → FrontAt shape start pushed taken front_seen submitted replies next entry ending s → is_issuing s ≡ false
unissued shape start pushed taken front_seen submitted replies next entry ending front.Loop none h = refl
unissued shape start pushed taken front_seen submitted replies next entry ending s none h = cc

-- a new request is none of those that were there
pub absent : (submitted series : List Request) (sectors last : ℕ) (x : Request) → x.number ≡ last + 1 → AreSubmitted submitted sectors last → IsSeries submitted series → (i : ℕ) → slice_get series i ≡ Some x → ⊥
absent submitted series sectors last x number all h i at =
    omega (arith, all.counted, slice_get_within submitted (x.number - 1) x (h.known i x at))

-- one request more in the series
module _ (series : List Request) (pushed : ℕ) (pages : List ℕ) (s : FrontStage) (x : Request) (few : pushed ≤ length series) (none : pushed ≡ length series → is_issuing s ≡ false) where
  -- the one that is issued was that before, or none is
  next_was : (q : Request) → slice_get (series ++ x ∷ []) pushed ≡ Some q → (slice_get series pushed ≡ Some q) ⊎ IsIdle s
  next_was q e = elim (push_was series x pushed q e) [ inl was ↦ inl was | inr new ↦ inr (idle s (none new.0)) ]

  pub slots_more : {shape : Shape} {start fetched taken replied : ℕ} {replies : List Reply} {b : BackStage} → AreSlots shape start fetched pushed taken replied series replies pages s b
      → AreSlots shape start fetched pushed taken replied (series ++ x ∷ []) replies pages s b
  slots_more h = record {
    entries = λ k r from to e i lt. elim (push_was series x k r e) [ inl was ↦ h.entries k r from to was i lt | inr new ↦ absurd (omega (arith, new.0)) ];
    entry = λ r e i lt in_it. elim (next_was r e) [ inl was ↦ h.entry r was i lt in_it | inr idle ↦ absurd (omega (arith, idle.unentered)) ];
    responses = h.responses;
    response = h.response;
  }

  pub frames_more : (requests : List Request) → ((i : ℕ) → slice_get series i ≡ Some x → ⊥) → All (IsFilled series pushed pages s) requests
      → All (IsFilled (series ++ x ∷ []) pushed pages s) (requests ++ x ∷ [])
  frames_more requests new h k d lt =
      let q : Request = get_or (requests ++ x ∷ []) k d in
      let was = All-push (IsFilled series pushed pages s) requests x h (record { whole = λ one. absurd (new one.index one.at); begun = λ e. absurd (new pushed e) }) k d lt in
      record {
        whole = λ one. was.whole (among_was pushed q x few one);
        begun = λ e n f l own. elim (next_was q e) [ inl there ↦ was.begun there n f l own | inr idle ↦ absurd (omega (arith, idle.unfilled (frames_for q.count))) ];
      }

  pub entries_more : {live : List Held} {ending : Option Ending} (requests : List Request) → ((i : ℕ) → slice_get series i ≡ Some x → ⊥)
      → AreEntries series pushed pages live s ending requests → AreEntries (series ++ x ∷ []) pushed pages live s ending (requests ++ x ∷ [])
  entries_more {live} requests new h =
      let before : IsGranted series pushed pages live s x =
      record { named = λ one. absurd (new one.index one.at); named_next = λ e. absurd (new pushed e); flags = λ one. absurd (new one.index one.at); flags_next = λ e. absurd (new pushed e) } in
      record {
        each = λ k d lt. let q : Request = get_or (requests ++ x ∷ []) k d in let was = All-push (IsGranted series pushed pages live s) requests x h.each before k d lt in record {
          named = λ one. was.named (among_was pushed q x few one);
          named_next = λ e place t in_it. elim (next_was q e) [ inl there ↦ was.named_next there place t in_it | inr idle ↦ absurd (omega (arith, idle.unnamed)) ];
          flags = λ one. was.flags (among_was pushed q x few one);
          flags_next = λ e place t in_it. elim (next_was q e) [ inl there ↦ was.flags_next there place t in_it | inr idle ↦ absurd (omega (arith, idle.ungranted)) ];
        };
        ending = h.ending;
      }

-- what is known of the requests that were there stays known
pub works_more : {series : List Request} (submitted : List Request) (fetched : ℕ) (works : List Work) (x : Request) → AreWorks submitted series fetched works → AreWorks (submitted ++ x ∷ []) (series ++ x ∷ []) fetched works
works_more {series} submitted fetched works x h = record {
  each = λ k d lt. let was = h.each k d lt in record { r = was.r; known = get_append submitted (x ∷ []) _ was.r was.known; positive = was.positive; issued = get_append series (x ∷ []) _ was.r was.issued; counted = was.counted; reached = was.reached; op = was.op; at = was.at };
  ascending = h.ascending;
  clear = h.clear;
}

pub replies_grown : {series : List Request} (fetched taken replied : ℕ) (replies : List Reply) (x : Request) → AreReplies series fetched taken replied replies → AreReplies (series ++ x ∷ []) fetched taken replied replies
replies_grown fetched taken replied replies x h = record {
  counted = h.counted;
  each = λ k d lt. let was = h.each k d lt in record { positive = was.positive; reached = numbered_grown fetched _ x was.reached; op = was.op };
  distinct = h.distinct;
}

replying_grown : {series : List Request} (fetched : ℕ) (works : List Work) (rep : Reply) (x : Request) → IsReplying series fetched works rep → IsReplying (series ++ x ∷ []) fetched works rep
replying_grown fetched works rep x h = record { positive = h.positive; reached = numbered_grown fetched rep.id x h.reached; op = h.op; alone = h.alone }

pub back_at_grown : (shape : Shape) (start fetched back_seen replied : ℕ) (series : List Request) (works : List Work) (entry : List ℕ) (x : Request) (b : BackStage)
    → BackAt shape start fetched back_seen replied series works entry b
    → BackAt shape start fetched back_seen replied (series ++ x ∷ []) works entry b
back_at_grown shape start fetched back_seen replied series works entry x (back.Fetch k) h = (h.0, h.1, h.2, (h.3.0, get_append series (x ∷ []) fetched h.3.0 h.3.1, h.3.2))
back_at_grown shape start fetched back_seen replied series works entry x b h = first_of (assumption, search replying_grown)
