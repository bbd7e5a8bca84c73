-- The front grants the frames of the request that it issues, one by one.
use Rattle.blk_back.specs.declared.stage.BackStage.{BackStage}
use Rattle.std.proofs.lemmas.Bool.{cases_eq}
use Rattle.std.proofs.Common.{inl, inr, ◌≡◌, ◌≢◌, ℕ, ◌+◌, ◌-◌, ◌*◌, ◌/◌, ◌%◌, ◌<◌, ◌≤◌, Bool, true, false, List, length, get_or, refl, sym, ◌∙◌, subst, arith, length-set, get_or-set_other, ap}
use Rattle.std.specs.Prelude.{All, Option, Some, nat_lt, if◌then◌else◌}
use Rattle.std.proofs.lemmas.Bool.Decides.{nat_tests}
use Rattle.blk_base.specs.Options.{Options}
use Rattle.xen_pages.specs.Pages.{with_word}
use Rattle.grant_table.specs.Table.{entry_word0, entry_word1}
use Rattle.pipeline_laws.specs.Pipeline.{Pipeline}
use Rattle.blk_front.specs.declared.request.Request.{Request}
use Rattle.blk_front.specs.Request.{flags_at, frame_at}
use Rattle.blk_front.specs.Ask.{name_ask, grant_ask}
use Rattle.blk_front.specs.declared.stage.FrontStage.{FrontStage}
use Rattle.blk_front.specs.declared.stage.FrontStage.TheVariants as front
use Rattle.blk_front.specs.View.{next_request}
use Rattle.blk_front.specs.Entry.{entry_of}
use Rattle.blk_front.specs.Step.{at, granted}
use Rattle.split_model.specs.World.{World}
use Rattle.split_model.specs.Safe.{IsSafe}
use Rattle.machine_pipeline.proofs.Flow.{Flow, frames_of, filled, named_frames, granted_frames, entered, may_front_sleep, is_issuing, is_fetching, ending_at, telling_at, reply_at}
use Rattle.machine_pipeline.proofs.Series.{IsAmong}
use Rattle.machine_pipeline.proofs.Holds.{IsPooled, FrontAt, IsFilled, IsGranted, AreEntries, FrontSends, Holds}
use Rattle.machine_pipeline.proofs.Kept.{SameFrame, SameEntry, SameGrants, written, other_word, other_frame, other_entry}
use Rattle.machine_pipeline.proofs.Data.{SameData, pooled_at}
use Rattle.machine_pipeline.proofs.Lists.{all_at, less_number}
use Rattle.machine_pipeline.proofs.Next.{FramesDiffer, IsNext}
use Rattle.machine_pipeline.proofs.Turns.{FrontGoes, said_nothing, goes_by}
use Rattle.machine_pipeline.proofs.Issuing.{unrevoked, stations_turned, issuing, frames_elsewhere, slots_turned, frames_turned, issue_moved, issue_on, with_front, next_here, AskGoes}
use Rattle.ring_words.specs.Shape.{Shape}
use Rattle.machine_pipeline.proofs.Stations.{AreStations}
use Rattle.machine_pipeline.proofs.ReadsKept.{stations_elsewhere}
use Rattle.blk_front.specs.Submit.{is_ready}
use Rattle.machine_pipeline.proofs.Slots.{some_words}

-- the frame word of another reference's entry
pub other_named : (pages : List ℕ) (gref other value : ℕ) → gref < 1024 → other < 1024 → other ≢ gref → SameEntry pages (with_word pages (gref / 512) (2 * (gref % 512) + 1) value) other
other_named pages gref other value few fewer apart = record {
  flags = get_or-set_other pages (gref / 512 * 1024 + (2 * (gref % 512) + 1)) (other / 512 * 1024 + 2 * (other % 512)) value 0 (omega arith);
  frame = get_or-set_other pages (gref / 512 * 1024 + (2 * (gref % 512) + 1)) (other / 512 * 1024 + (2 * (other % 512) + 1)) value 0 (omega arith);
}

-- the entries of all other references are as they were
abbrev pub SameOthers : (old new : List ℕ) → ℕ → Type 0
SameOthers old new gref = (other : ℕ) → other < 1024 → other ≢ gref → SameEntry old new other

-- so many of a request's frames, the first ones, stand in their grant entries, and are granted
abbrev pub AreNamed : List ℕ → Request → ℕ → Type 0
AreNamed pages r n = (a : ℕ) → a < n → a < frames_of r → entry_word1 pages (frame_at r a + 6) ≡ frame_at r a

abbrev pub AreGranted : List ℕ → Request → ℕ → Type 0
AreGranted pages r n = (a : ℕ) → a < n → a < frames_of r → entry_word0 pages (frame_at r a + 6) ≡ flags_at r a

-- the memory with a frame in the entry of its own reference, or with its flags there
abbrev pub with_name : List ℕ → (frame value : ℕ) → List ℕ
with_name pages frame value = with_word pages ((frame + 6) / 512) (2 * ((frame + 6) % 512) + 1) value

abbrev pub with_flags : List ℕ → (frame value : ℕ) → List ℕ
with_flags pages frame value = with_word pages ((frame + 6) / 512) (2 * ((frame + 6) % 512)) value

-- those of the others of a request's frames are among them
entries_beside : (old new : List ℕ) (r : Request) (place : ℕ) → All IsPooled r.frames.items → FramesDiffer r → place < frames_of r
    → SameOthers old new (frame_at r place + 6) → (a : ℕ) → a ≢ place → a < frames_of r → SameEntry old new (frame_at r a + 6)
entries_beside old new r place pooled own here others a apart in_it = others (frame_at r a + 6) (omega (arith, (pooled_at r pooled a).1)) (λ same. (own a place apart in_it here) (omega arith))

name_aside : (pages : List ℕ) (frame value : ℕ) → frame < 1018 → SameOthers pages (with_name pages frame value) (frame + 6)
name_aside pages frame value low other lt apart = other_named pages (frame + 6) other value (omega arith) lt apart

flags_aside : (pages : List ℕ) (frame value : ℕ) → frame < 1018 → SameOthers pages (with_flags pages frame value) (frame + 6)
flags_aside pages frame value low other lt apart = other_entry pages (frame + 6) other value (omega arith) lt apart

-- the other requests' entries are as they were, the next one's as it is now
entries_with : {config : Options} {w : World} {g : Flow} {d : Pipeline} {s : FrontStage} {b : BackStage} {r : Request} (h : Holds config w g d s b) (place : ℕ) (new : List ℕ) (s' : FrontStage)
    → may_front_sleep s' ≡ true
    → IsNext g.submitted g.series w.front.requests g.pushed w.front.waiting r
    → place < frames_of r
    → SameOthers w.under.pages new (frame_at r place + 6)
    → AreNamed new r (named_frames s') → AreGranted new r (granted_frames s')
    → AreEntries g.series g.pushed new w.under.grants.live s' w.front.ending w.front.requests
entries_with {w = w} {g = g} h place new s' i' next within others named granted = record {
  each = λ k d lt.
      let q : Request = get_or w.front.requests k d in
      let was = h.entries.each k d lt in
      let only = next.only q in
      let elsewhere : IsAmong g.series g.pushed q → SameGrants w.under.pages new q = λ le a in_it.
      let differs = (next.apart k d lt) (next.late q le) a place in_it within in
      others (frame_at q a + 6) (omega (arith, (pooled_at q (next.pooled k d lt) a).1)) (λ same. differs (omega arith)) in
      record {
        named = λ le a in_it. (elsewhere le a in_it).frame ∙ was.named le a in_it;
        named_next = λ e. subst (λ (q : Request). AreNamed new q (named_frames s')) (sym (only e)) named;
        flags = λ le a in_it. (elsewhere le a in_it).flags ∙ was.flags le a in_it;
        flags_next = λ e. subst (λ (q : Request). AreGranted new q (granted_frames s')) (sym (only e)) granted;
      };
  ending = λ e t. absurd (unrevoked s' w.front.ending e (issuing s' i').ended t);
}

-- what holds goes on holding where a word of the grant entry of one of the next request's frames alone changes
pub entry_moved : (config : Options) (w : World) (g : Flow) (d d' : Pipeline) (s s' : FrontStage) (r : Request) (place : ℕ) (entry : List ℕ) (word value : ℕ)
    → may_front_sleep s ≡ true → may_front_sleep s' ≡ true
    → Holds config w g d s w.back.stage
    → AreStations config g d' (is_ready s') (is_issuing s') (is_fetching w.back.stage) (ending_at s' w.front.ending) (telling_at s') (reply_at w.back.stage) w.front.requests w.back.jobs.works w.under.pages
    → IsNext g.submitted g.series w.front.requests g.pushed w.front.waiting r
    → place < frames_of r
    → word < 1024
    → SameOthers w.under.pages (with_word w.under.pages ((frame_at r place + 6) / 512) word value) (frame_at r place + 6)
    → ((new : List ℕ) → All (SameData w.under.pages new) w.front.requests → All (IsFilled g.series g.pushed new s') w.front.requests)
    → entered s' ≡ 0
    → FrontAt g.shape g.start g.pushed g.taken g.front_seen g.submitted g.replies (next_request w.front) entry w.front.ending s'
    → AreNamed (with_word w.under.pages ((frame_at r place + 6) / 512) word value) r (named_frames s')
    → AreGranted (with_word w.under.pages ((frame_at r place + 6) / 512) word value) r (granted_frames s')
    → (FrontSends s g.pushed g.fetched → ⊥)
    → Holds config (with_front w s' entry (with_word w.under.pages ((frame_at r place + 6) / 512) word value)) g d' s' w.back.stage
entry_moved config w g d d' s s' r place entry word value i i' h stations next in_it within others filled_so none at named granted unsent =
    let gref : ℕ = frame_at r place + 6 in
    let pooled : IsPooled (frame_at r place) = pooled_at r next.frames place in
    let low = pooled.0 in
    let high = pooled.1 in
    let new : List ℕ = with_word w.under.pages (gref / 512) word value in
    let elsewhere : (f : ℕ) → f ≢ gref / 512 → SameFrame w.under.pages new f = λ f other. other_frame w.under.pages (gref / 512) word value f within other in
    issue_moved config w g d d' s s' entry new i i' h
    (stations_elsewhere config g d' (is_ready s') (is_issuing s') (is_fetching w.back.stage) (ending_at s' w.front.ending) (telling_at s') (reply_at w.back.stage) w.front.requests w.back.jobs.works
    w.under.pages new config.sectors w.front.last h.submitted (λ f from to. elsewhere f (omega arith)) stations) at
    (length-set w.under.pages (gref / 512 * 1024 + word) value ∙ h.memory)
    (λ x lt. elsewhere 2 (omega arith) x (omega arith))
    (λ page lt. others (8 + page) (omega arith) (omega arith))
    (slots_turned h new s' (λ f x from to in_it after. elsewhere f (omega arith) x in_it) none)
    (filled_so new (frames_elsewhere h new s' (λ f from. elsewhere f (omega arith))))
    (entries_with h place new s' i' next in_it others named granted)
    (λ t sends. absurd (unsent sends))

-- the frame of this place stands in its entry now, and those before it do still
pub named_now : (pages : List ℕ) (r : Request) (place : ℕ) → length pages ≡ 1114112 → All IsPooled r.frames.items → FramesDiffer r → place < frames_of r
    → AreNamed pages r place
    → AreNamed (with_name pages (frame_at r place) (frame_at r place)) r (place + 1)
named_now pages r place sized pooled own here before a upto in_it =
    let high = (pooled_at r pooled place).1 in
    elim (cases_eq a place) [
      | inl same ↦ rw same (written pages ((frame_at r place + 6) / 512) (2 * ((frame_at r place + 6) % 512) + 1) (frame_at r place) sized (omega arith) (omega arith))
      | inr other ↦ (entries_beside pages _ r place pooled own here (name_aside pages (frame_at r place) (frame_at r place) high) a other in_it).frame ∙ before a (omega arith) in_it
    ]

pub frame_goes : (config : Options) (w : World) (g : Flow) (d : Pipeline) (place : ℕ) → IsSafe w → Holds config w g d (front.GrantFrame place) w.back.stage → FrontGoes config w d (front.GrantFrame place)
frame_goes config w g d place safe h = subst (λ (q : Option Request). AskGoes config w d (name_ask q place) (at (front.GrantFence place) w.front)) (sym h.front_at.1) (
    let r : Request = h.front_at.0 in
    let next = next_here h h.front_at.1 in
    let was = all_at (IsGranted g.series g.pushed w.under.pages w.under.grants.live (front.GrantFrame place)) w.front.requests (length w.front.requests - w.front.waiting) r h.entries.each next.place in
    let aside = name_aside w.under.pages (frame_at r place) (frame_at r place) (pooled_at r next.frames place).1 in
    goes_by (said_nothing d _ w.front.told safe.front_told)
    (entry_moved config w g d d (front.GrantFrame place) (front.GrantFence place) r place w.front.ring.entry (2 * ((frame_at r place + 6) % 512) + 1) (frame_at r place) refl refl h h.stations
    next h.front_at.2 (omega arith) aside (λ new. frames_turned h new (front.GrantFence place) (λ n. omega arith)) refl h.front_at
    (named_now w.under.pages r place h.memory next.frames next.own h.front_at.2 (was.named_next next.at))
    (λ a upto in_it. (entries_beside w.under.pages _ r place next.frames next.own h.front_at.2 aside a (omega arith) in_it).flags ∙ was.flags_next next.at a upto in_it)
    (λ sends. sends)))

pub fence_goes : (config : Options) (w : World) (g : Flow) (d : Pipeline) (place : ℕ) → IsSafe w → Holds config w g d (front.GrantFence place) w.back.stage → FrontGoes config w d (front.GrantFence place)
fence_goes config w g d place safe h =
    goes_by (said_nothing d _ w.front.told safe.front_told)
    (issue_on config w g d (front.GrantFence place) (front.GrantFlags place) refl refl refl h h.front_at (λ n. omega arith) refl (omega arith) (omega arith) (λ t sends. sends))

pub flags_goes : (config : Options) (w : World) (g : Flow) (d : Pipeline) (place : ℕ) → IsSafe w → Holds config w g d (front.GrantFlags place) w.back.stage → FrontGoes config w d (front.GrantFlags place)
flags_goes config w g d place safe h = subst (λ (q : Option Request). AskGoes config w d (grant_ask q place) (granted q place w.front)) (sym h.front_at.1)
    (by_test (nat_lt (place + 1) (frames_of r)) refl)
  where
    r : Request
    r = h.front_at.0

    next : IsNext g.submitted g.series w.front.requests g.pushed w.front.waiting r
    next = next_here h h.front_at.1

    was : IsGranted g.series g.pushed w.under.pages w.under.grants.live (front.GrantFlags place) r
    was = all_at (IsGranted g.series g.pushed w.under.pages w.under.grants.live (front.GrantFlags place)) w.front.requests (length w.front.requests - w.front.waiting) r h.entries.each next.place

    high : (a : ℕ) → frame_at r a < 1018
    high a = (pooled_at r next.frames a).1

    new : List ℕ
    new = with_flags w.under.pages (frame_at r place) (flags_at r place)

    -- the frame of this place is granted now, and those before it are still, and stand in their entries
    now : (a : ℕ) → a < place + 1 → a < frames_of r → (entry_word1 new (frame_at r a + 6) ≡ frame_at r a) × (entry_word0 new (frame_at r a + 6) ≡ flags_at r a)
    now a upto in_it = elim (cases_eq a place) [
      | inl same ↦ rw same (
        other_word w.under.pages ((frame_at r place + 6) / 512) (2 * ((frame_at r place + 6) % 512)) (flags_at r place) (2 * ((frame_at r place + 6) % 512) + 1) (omega arith) ∙ was.named_next next.at place (omega arith) h.front_at.2,
        written w.under.pages ((frame_at r place + 6) / 512) (2 * ((frame_at r place + 6) % 512)) (flags_at r place) h.memory (omega (arith, high place)) (omega arith),
      )
      | inr other ↦
          let entry = entries_beside w.under.pages new r place next.frames next.own h.front_at.2 (flags_aside w.under.pages (frame_at r place) (flags_at r place) (high place)) a other in_it in
          (entry.frame ∙ was.named_next next.at a upto in_it, entry.flags ∙ was.flags_next next.at a (omega arith) in_it)
    ]

    on : (s' : FrontStage) (entry : List ℕ) → may_front_sleep s' ≡ true → is_issuing s' ≡ true → ((frames : ℕ) → filled s' frames ≤ 1024 * frames + 1920) → entered s' ≡ 0
        → FrontAt g.shape g.start g.pushed g.taken g.front_seen g.submitted g.replies (next_request w.front) entry w.front.ending s'
        → ((a : ℕ) → a < frames_of r → (a < named_frames s' → a < place + 1) × (a < granted_frames s' → a < place + 1))
        → Holds config (with_front w s' entry new) g d s' w.back.stage
    on s' entry i' same filled_few none at few =
        entry_moved config w g d d (front.GrantFlags place) s' r place entry (2 * ((frame_at r place + 6) % 512)) (flags_at r place) refl i' h
        (stations_turned h w.under.pages s' (issuing s' i').ready same refl (issuing s' i').ended (λ f low up x lt. refl)) next h.front_at.2 (omega arith)
        (flags_aside w.under.pages (frame_at r place) (flags_at r place) (high place)) (λ pages. frames_turned h pages s' filled_few) none at
        (λ a upto in_it. (now a ((few a in_it).0 upto) in_it).0) (λ a upto in_it. (now a ((few a in_it).1 upto) in_it).1)
        (λ sends. sends)

    by_test : (b : Bool) → nat_lt (place + 1) (frames_of r) ≡ b
        → AskGoes config w d (grant_ask (Some r) place)
        (if b then at (front.GrantFrame (place + 1)) w.front else record w.front { stage = front.Slot 0; ring = record w.front.ring { entry = entry_of w.front.shape.abi r } })
    by_test true t = goes_by (said_nothing d _ w.front.told safe.front_told)
        (on (front.GrantFrame (place + 1)) w.front.ring.entry refl refl (λ frames. omega arith) refl (r, h.front_at.1, less_number (place + 1) (frames_of r) t)
        (λ a in_it. (λ upto. upto, λ upto. upto)))
    by_test false t = goes_by (said_nothing d _ w.front.told safe.front_told)
        (on (front.Slot 0) (entry_of w.front.shape.abi r) refl refl (λ frames. omega arith) refl (some_words g.shape.abi, (r, h.front_at.1, ap (λ (x : Shape). entry_of x.abi r) h.shaped.known))
        (λ a in_it. (λ upto. last place (frames_of r) t a in_it, λ upto. last place (frames_of r) t a in_it)))
      where
        last : (n size : ℕ) → nat_lt (n + 1) size ≡ false → (a : ℕ) → a < size → a < n + 1
        last n size t a in_it = grind (arith, nat_tests)
