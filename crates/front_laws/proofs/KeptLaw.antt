-- In every run of a front as it is: each grant is made once, used where it is kept, ended as it leaves, and none is left.
use Rattle.std.proofs.Common.{◌≡◌, ◌≢◌, ℕ, ◌==◌, Bool, true, false, if◌then◌else◌, List, [], ◌∷◌, ◌⊎◌, inl, inr, refl, sym, ap, ◌∙◌, subst, arith}
use Rattle.std.specs.Prelude.{All, Option, Some}
use Rattle.std.proofs.lemmas.Bool.{false≢true}
use Rattle.std.proofs.lemmas.Bool.Decides.{nat_tests}
use Rattle.std.proofs.lemmas.List.Elements.{All-nil, All-cons, All-head, All-tail}
use Rattle.blk_base.specs.declared.ask.FrontAsk.{FrontAsk}
use Rattle.blk_base.specs.declared.ask.FrontAsk.TheVariants.{Wait, Write, Cas}
use Rattle.blk_base.specs.declared.ask.FrontAnswer.{FrontAnswer}
use Rattle.blk_front.specs.declared.request.Request.{Request}
use Rattle.blk_front.specs.declared.stage.FrontStage.{FrontStage}
use Rattle.blk_front.specs.declared.stage.FrontStage.TheVariants as stage
use Rattle.blk_front.specs.Pool.{empty_pool, with_taken, is_taken}
use Rattle.blk_front.specs.Request.{frame_at}
use Rattle.blk_front.specs.Suspend.{resumed}
use Rattle.blk_front.specs.View.{View, start_of, next_request, ring_frame, ring_page_frame, entry_frame, entry_word}
use Rattle.blk_front.specs.Keep.{ask_as_at, step_as_at, granted_as, grant_ask_as}
use Rattle.front_laws.specs.History.{Line}
use Rattle.front_laws.specs.Kept.{KeepingRun, now, trace, is_kept, is_flags, makes, ends, Stands, MakesEachOnce, KeepsWhatWasMade, AreGranted, is_entering, UsesKeptGrants, PushesKeptGrants, IsEndedNow, EndsAsItLeaves, is_past_grants, LeavesNone, EndsTheRingFirst, BeginsWithNone, KeepsNoneElsewhere}
use Rattle.front_laws.proofs.Places.{IsPooled, pooled_at}
use Rattle.front_laws.proofs.KeptFrames.{taken_same, none_kept, all_empty}
use Rattle.front_laws.proofs.KeptAsks.{flags_here, not_other, touches, made_after, made_over}
use Rattle.front_laws.proofs.KeptStages.{Base, is_early, IsMaking, At, IsTidy, next_own}
use Rattle.front_laws.proofs.KeptQuiet.{IsQuiet, quiet, is_producer, unpushed}
use Rattle.front_laws.proofs.KeptTurns.{either_told, kept_granted}
use Rattle.front_laws.proofs.KeptRing.{Fits, fits, past_none}
use Rattle.front_laws.proofs.KeptRuns.{runs, tidy_runs, ledger_runs, starts, over_joined}

tidy_now : (r : KeepingRun) → IsTidy (now r)
tidy_now r = tidy_runs r.happenings (start_of r.config) (starts r.config r.ring)

kept_now : (r : KeepingRun) (f : ℕ) → IsPooled f → (now r).offers.persistent ≡ true → is_kept (now r) f ≡ made_over f false (trace r)
kept_now r f its keeps =
    ledger_runs f its r.happenings (start_of r.config) false (starts r.config r.ring) (λ e. none_kept f its)
    (either_told false true (is_early (now r).stage) (now r).offers.persistent (λ e. absurd (false≢true e)) (λ e. keeps) refl)

-- a grant stands after the lines where one of them made it and none since ended it
module _ (f : ℕ) where
  still_over : (lines : List Line) → All (λ (l : Line). ends f l ≡ false) lines → made_over f true lines ≡ true
  still_over [] all = refl
  still_over (line ∷ lines) all = ap (λ (b : Bool). made_over f b lines) (by_test (makes f line) (ends f line) (All-head (λ (l : Line). ends f l ≡ false) line lines all)) ∙ still_over lines (All-tail (λ (l : Line). ends f l ≡ false) line lines all)
    where
      by_test : (a b : Bool) → b ≡ false → (if a then true else (if b then false else true)) ≡ true
      by_test true b e = refl
      by_test false b e = rw e refl

  over_stands : (lines : List Line) → Stands f lines → (made : Bool) → made_over f made lines ≡ true
  over_stands lines s made =
      ap (λ (l : List Line). made_over f made l) s.lines_are
      ∙ (over_joined f made s.before (s.line ∷ s.since)
      ∙ (ap (λ (b : Bool). made_over f (if b then true else (if ends f s.line then false else made_over f made s.before)) s.since) s.made ∙ still_over s.since s.still))

  abbrev Stood : Bool → List Line → Type 0
  Stood made lines = Stands f lines ⊎ ((made ≡ true) × All (λ (l : Line). ends f l ≡ false) lines)

  one_more : (line : Line) (lines : List Line) → Stands f lines → Stands f (line ∷ lines)
  one_more line lines s = record { before = line ∷ s.before; line = s.line; since = s.since; lines_are = ap (λ (l : List Line). line ∷ l) s.lines_are; made = s.made; still = s.still }

  stands_over : (lines : List Line) (made : Bool) → made_over f made lines ≡ true → Stood made lines
  stands_over [] made e = inr (e, All-nil (λ (l : Line). ends f l ≡ false))
  stands_over (line ∷ lines) made e = elim (stands_over lines (made_after f made line) e) [
    | inl s ↦ inl (one_more line lines s)
    | inr kept ↦ by_test (makes f line) refl (ends f line) refl kept.0 kept.1
  ]
    where
      by_test : (a : Bool) → makes f line ≡ a → (b : Bool) → ends f line ≡ b → (if a then true else (if b then false else made)) ≡ true → All (λ (l : Line). ends f l ≡ false) lines → Stood made (line ∷ lines)
      by_test true m b n e all = inl (record { before = []; line = line; since = lines; lines_are = refl; made = m; still = all })
      by_test false m true n e all = absurd (false≢true e)
      by_test false m false n e all = inr (e, All-cons (λ (l : Line). ends f l ≡ false) line lines n all)

pub keeps_what_was_made : KeepsWhatWasMade
keeps_what_was_made r frame from to keeps = (
  (λ kept. by_stood (stands_over frame (trace r) false (sym is ∙ kept))),
  (λ s. is ∙ over_stands frame (trace r) s false),
)
  where
    is : is_kept (now r) frame ≡ made_over frame false (trace r)
    is = kept_now r frame (from, to) keeps

    by_stood : Stood frame false (trace r) → Stands frame (trace r)
    by_stood (inl s) = s
    by_stood (inr none) = absurd (false≢true none.0)

-- an ask at a frame's flags is of that frame's grant
same_frame : (f g : ℕ) → is_flags f (entry_frame g) (entry_word g) ≡ true → g ≡ f
same_frame f g e = by_test (g == f) refl
  where
    by_test : (b : Bool) → (g == f) ≡ b → g ≡ f
    by_test true t = grind (arith, nat_tests)
    by_test false t = let other : g ≢ f = grind (arith, nat_tests) in absurd (false≢true (sym (not_other f g other) ∙ e))

abbrev is_write : FrontAsk → Bool
is_write (Write place word value) = true
is_write ask = false

abbrev value_of : FrontAsk → ℕ
value_of (Write place word value) = value
value_of (Cas place word old new) = new
value_of ask = 0

abbrev old_of : FrontAsk → ℕ
old_of (Cas place word old new) = old
old_of ask = 0

module _ (v : View) (base : Base v) (keeps : v.offers.persistent ≡ true) (f : ℕ) (its : IsPooled f) where
  -- a stage that asks nothing of a frame's grant
  not_here : (s : FrontStage) (ask : FrontAsk) → IsQuiet f its s → At s v → ask_as_at s v ≡ ask → touches (is_flags f) ask ≡ true → ⊥
  not_here s ask still i asks here = false≢true (sym (quiet f its s v still base i) ∙ (ap (touches (is_flags f)) asks ∙ here))

  made_at : (s : FrontStage) (value : ℕ) → v.stage ≡ s → At s v → ask_as_at s v ≡ Write (entry_frame f) (entry_word f) value → (is_kept v f ≡ false) × (value ≡ 1) × ((given : FrontAnswer) → is_kept (step_as_at s v given) f ≡ true)
  made_at (stage.GrantFlags place) value here i asks = (
    subst (λ (h : ℕ). is_kept v h ≡ false) same m.new.new,
    sym (ap value_of asked),
    (λ given. ap (λ (o : Option Request). is_kept (granted_as o place v) f) m.next_is ∙ (ap (λ (l : List Bool). is_taken l f) (kept_granted v base m.r m.next_is place keeps m.new) ∙ subst (λ (h : ℕ). is_taken (with_taken v.kept (frame_at m.r place)) h ≡ true) same (taken_same v.kept (frame_at m.r place) base.size (pooled_at m.r (next_own v m.r base m.next_is).pooled place)))),
  )
    where
      m : IsMaking v.kept (next_request v) place
      m = i keeps

      asked : Write (entry_frame (frame_at m.r place)) (entry_word (frame_at m.r place)) 1 ≡ Write (entry_frame f) (entry_word f) value
      asked = sym (ap (λ (p : Bool). grant_ask_as p (Some m.r) place) keeps) ∙ (sym (ap (λ (o : Option Request). grant_ask_as v.offers.persistent o place) m.next_is) ∙ asks)

      same : frame_at m.r place ≡ f
      same = same_frame f (frame_at m.r place) (ap (touches (is_flags f)) asked ∙ flags_here f)
  made_at (stage.GrantEnd place before) value here i asks = absurd (false≢true (sym i ∙ keeps))
  made_at (stage.KeptEnd frame before) value here i asks = absurd (false≢true (ap is_write (sym (ap (λ (p : Bool). if p then Cas (entry_frame frame) (entry_word frame) before 0 else Wait) keeps) ∙ asks)))
  made_at s value here i asks = absurd (not_here s (Write (entry_frame f) (entry_word f) value) tt i asks (flags_here f))

  ended_at : (s : FrontStage) (old new : ℕ) → v.stage ≡ s → At s v → ask_as_at s v ≡ Cas (entry_frame f) (entry_word f) old new → IsEndedNow v f old new
  ended_at (stage.GrantFlags place) old new here i asks = absurd (false≢true (sym (ap is_write (sym asked ∙ asks))))
    where
      m : IsMaking v.kept (next_request v) place
      m = i keeps

      asked : grant_ask_as v.offers.persistent (next_request v) place ≡ Write (entry_frame (frame_at m.r place)) (entry_word (frame_at m.r place)) 1
      asked = ap (λ (o : Option Request). grant_ask_as v.offers.persistent o place) m.next_is ∙ ap (λ (p : Bool). grant_ask_as p (Some m.r) place) keeps
  ended_at (stage.GrantEnd place before) old new here i asks = absurd (false≢true (sym i ∙ keeps))
  ended_at (stage.KeptEnd frame before) old new here i asks = record {
    ends = sym (ap value_of asked);
    at = here ∙ (ap (λ (h : ℕ). stage.KeptEnd h before) same ∙ ap (λ (n : ℕ). stage.KeptEnd f n) (ap old_of asked));
    through = i.leaves;
    kept = subst (λ (h : ℕ). is_kept v h ≡ true) same i.lowest.taken;
  }
    where
      asked : Cas (entry_frame frame) (entry_word frame) before 0 ≡ Cas (entry_frame f) (entry_word f) old new
      asked = sym (ap (λ (p : Bool). if p then Cas (entry_frame frame) (entry_word frame) before 0 else Wait) keeps) ∙ asks

      same : frame ≡ f
      same = same_frame f frame (ap (touches (is_flags f)) asked ∙ flags_here f)
  ended_at s old new here i asks = absurd (not_here s (Cas (entry_frame f) (entry_word f) old new) tt i asks (flags_here f))

pub makes_each_once : MakesEachOnce
makes_each_once r frame value from to keeps asks =
    let t = tidy_now r in
    let made = made_at (now r) t.base keeps frame (from, to) (now r).stage value refl t.at asks in
    record { new = made.0; flags = made.1; kept = made.2 }

pub ends_as_it_leaves : EndsAsItLeaves
ends_as_it_leaves r frame old new from to keeps asks = let t = tidy_now r in ended_at (now r) t.base keeps frame (from, to) (now r).stage old new refl t.at asks

used_at : (s : FrontStage) (v : View) → At s v → v.offers.persistent ≡ true → is_entering s ≡ true → AreGranted v.kept (next_request v)
used_at (stage.Slot k) v i keeps enters = i keeps
used_at stage.Producer v i keeps enters = i keeps
used_at s v i keeps enters = absurd (false≢true enters)

pub uses_kept_grants : UsesKeptGrants
uses_kept_grants r keeps enters = used_at (now r).stage (now r) (tidy_now r).at keeps enters

pushed_at : (s : FrontStage) (v : View) (value : ℕ) → Base v → At s v → v.offers.persistent ≡ true → ask_as_at s v ≡ Write ring_frame 0 value → AreGranted v.kept (next_request v)
pushed_at stage.Producer v value base i keeps asks = i keeps
pushed_at s v value base i keeps asks = absurd (false≢true (sym (unpushed s v tt base i keeps) ∙ ap (touches is_producer) asks))

pub pushes_kept_grants : PushesKeptGrants
pushes_kept_grants r value keeps asks = let t = tidy_now r in pushed_at (now r).stage (now r) value t.base t.at keeps asks

none_at : (s : FrontStage) (v : View) → Base v → At s v → is_past_grants s ≡ true → v.kept ≡ empty_pool
none_at stage.ClosePort v base i leaves = all_empty v.kept base.size i
none_at stage.Left v base i leaves = all_empty v.kept base.size i
none_at stage.Closed v base i leaves = all_empty v.kept base.size i
none_at s v base i leaves = absurd (false≢true leaves)

pub leaves_none : LeavesNone
leaves_none r leaves = let t = tidy_now r in none_at (now r).stage (now r) t.base t.at leaves

pub begins_with_none : BeginsWithNone
begins_with_none r opened = ap (λ (b : Bool). (if b then resumed (now r) else now r).kept) opened

pub ends_the_ring_first : EndsTheRingFirst
ends_the_ring_first r page within past stands =
    let ringed = runs (ring_page_frame page) (Fits page) (fits page) r.happenings (start_of r.config) false (starts r.config r.ring) (λ lt. tt) in
    let none = past_none (now r).stage page (made_over (ring_page_frame page) false (trace r)) past (ringed within) in
    false≢true (sym none ∙ over_stands (ring_page_frame page) (trace r) stands false)

pub keeps_none_elsewhere : KeepsNoneElsewhere
keeps_none_elsewhere r never = (tidy_now r).base.plain never
