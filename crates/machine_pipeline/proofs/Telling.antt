-- The front reads the data of a read that was answered, word by word, and tells its sectors.
use Rattle.blk_front.specs.declared.request.Transfer.TheVariants as transfer
use Rattle.blk_base.specs.declared.operation.Status.TheVariants.{Okay}
use Rattle.machine_pipeline.specs.Step.{IsSame}
use Rattle.pipeline_laws.specs.Move.{told_station}
use Rattle.std.proofs.lemmas.Bool.{cases_eq}
use Rattle.std.proofs.Common.{inl, inr, ◌≡◌, ◌≢◌, ℕ, ◌+◌, ◌-◌, ◌*◌, ◌/◌, ◌%◌, ◌<◌, ◌≤◌, ◌==◌, if◌then◌else◌, Bool, true, false, List, [], ◌∷◌, length, refl, ap, sym, ◌∙◌, subst, arith, length-set, get_or-set_other}
use Rattle.std.specs.Prelude.{Option, Some, None, slice_set, slice_index, nat_lt}
use Rattle.std.proofs.lemmas.Grind.{get_or-set_at}
use Rattle.std.proofs.lemmas.Option.{same_Some}
use Rattle.std.proofs.lemmas.Bool.Decides.{nat_tests}
use Rattle.blk_base.specs.Options.{Options}
use Rattle.blk_base.specs.declared.moves.Move.TheVariants as moves
use Rattle.schedule_text.specs.declared.line.Line.TheVariants as lines
use Rattle.pipeline_laws.specs.Pipeline.{Pipeline, next}
use Rattle.blk_front.specs.declared.request.Request.{Request}
use Rattle.blk_front.specs.declared.stage.Ending.{Ending}
use Rattle.blk_front.specs.declared.stage.FrontStage.{FrontStage}
use Rattle.blk_front.specs.declared.stage.FrontStage.TheVariants as front
use Rattle.blk_front.specs.declared.told.Told.TheVariants as told
use Rattle.blk_front.specs.Ask.{read_ask}
use Rattle.blk_front.specs.Pool.{with_all_free}
use Rattle.blk_front.specs.Request.{frame_at, words_in}
use Rattle.blk_front.specs.Step.{at as at_stage, finished, data_step}
use Rattle.blk_front.specs.View.{View}
use Rattle.split_model.specs.World.{World}
use Rattle.split_model.specs.Shown.{front_lines}
use Rattle.machine_pipeline.proofs.Flow.{submitted_job, Flow, is_fetching, reply_at, data_word}
use Rattle.machine_pipeline.proofs.Holds.{Holds, IsToldAt, AreSubmitted, ArePooled, AreReadTo}
use Rattle.machine_pipeline.proofs.Turns.{Stepped, Goes, FrontGoes, said_nothing, does_step, goes_by}
use Rattle.machine_pipeline.proofs.Issuing.{entries_turned}
use Rattle.machine_pipeline.proofs.Ending.{pooled_free}
use Rattle.machine_pipeline.proofs.Ended.{ActGoes, finishing_at, ends_on}
use Rattle.machine_pipeline.proofs.Stations.{AreStations}
use Rattle.machine_pipeline.proofs.StationsFront.{told_on, told_ending, tells}

-- one word more of a sector was read
more_read : (pages words : List ℕ) (r : Request) (n : ℕ) → length words ≡ 128
    → ((k : ℕ) → k < n % 128 → slice_index words k ≡ data_word pages r (n / 128 * 128 + k))
    → (k : ℕ) → k < n % 128 + 1 → slice_index (slice_set words (n % 128) (data_word pages r n)) k ≡ data_word pages r (n / 128 * 128 + k)
more_read pages words r n sized read k lt = elim (cases_eq k (n % 128)) [
  | inl same ↦ get_or-set_at words (n % 128) k (data_word pages r n) 0 same (omega arith) ∙ ap (data_word pages r) (omega (arith, same))
  | inr other ↦ get_or-set_other words (n % 128) k (data_word pages r n) 0 other ∙ read k (omega arith)
]

-- a read whose answer was told, with its first n words read, as the front is ready or not
pub record IsTelling (config : Options) (w : World) (g : Flow) (d : Pipeline) (ready : Bool) (n : ℕ) : Type 0 where
  pub untold : w.front.told ≡ None
  pub at : IsToldAt g.submitted g.replies w.front.ending n
  pub submitted : AreSubmitted g.submitted config.sectors w.front.last
  pub size : length w.front.words ≡ 128
  pub so_far : AreReadTo w.under.pages w.front.words w.front.ending n
  pub pool : ArePooled w.front.pool w.front.requests w.front.ending
  pub stations : AreStations config g d ready false (is_fetching w.back.stage) w.front.ending (Some (n / 128)) (reply_at w.back.stage) w.front.requests w.back.jobs.works w.under.pages

-- what stands at the next stage, with more words to read, and at the last one, once all are told
abbrev pub HoldsMore : Options → World → Flow → (ready : Bool) → (n : ℕ) → (next : FrontStage) → Type 0
HoldsMore config w g ready n next =
    (p : Pipeline) (words : List ℕ) → IsToldAt g.submitted g.replies w.front.ending (n + 1) → length words ≡ 128 → AreReadTo w.under.pages words w.front.ending (n + 1)
    → AreStations config g p ready false (is_fetching w.back.stage) w.front.ending (Some ((n + 1) / 128)) (reply_at w.back.stage) w.front.requests w.back.jobs.works w.under.pages
    → Holds config (finishing_at w next w.front.ending w.front.pool words w.under.pages) g p next w.back.stage

abbrev pub HoldsAll : Options → World → Flow → (ready : Bool) → (last : FrontStage) → Type 0
HoldsAll config w g ready last =
    (p : Pipeline) (pool : List Bool) (words : List ℕ) → ArePooled pool w.front.requests None → length words ≡ 128
    → AreStations config g p ready false (is_fetching w.back.stage) None None (reply_at w.back.stage) w.front.requests w.back.jobs.works w.under.pages
    → Holds config (finishing_at w last None pool words w.under.pages) g p last w.back.stage

module _ (config : Options) (w : World) (g : Flow) (d : Pipeline) (n : ℕ) (next_stage last_stage : FrontStage) (ready : Bool) (h : IsTelling config w g d ready n) where
  abbrev e : Ending
  e = h.at.0

  abbrev pub word : ℕ
  word = data_word w.under.pages e.request n

  abbrev words : List ℕ
  words = slice_set w.front.words (n % 128) word

  -- the machine with that front
  abbrev pub Becomes : View → Type 0
  Becomes x = Goes config (lines.Move (moves.FrontRead (frame_at e.request (n / 1024)) (n % 1024) word) ∷ front_lines x.told)
      (record { front = record x { told = None }; back = w.back; under = w.under }) d

  sized : length words ≡ 128
  sized = length-set w.front.words (n % 128) word ∙ h.size

  read : (k : ℕ) → k < n % 128 + 1 → slice_index words k ≡ data_word w.under.pages e.request (n / 128 * 128 + k)
  read = more_read w.under.pages w.front.words e.request n h.size (h.so_far e h.at.1)

  whole : n % 128 ≡ 127 → (j : ℕ) → j < 128 → slice_index words j ≡ data_word w.under.pages e.request (128 * (n / 128) + j)
  whole last j lt = read j (omega arith) ∙ ap (data_word w.under.pages e.request) (omega arith)

  abbrev At : Option Ending → Option ℕ → Pipeline → Type 0
  At ending telling p = AreStations config g p ready false (is_fetching w.back.stage) ending telling
      (reply_at w.back.stage) w.front.requests w.back.jobs.works w.under.pages

  stations : At (Some e) (Some (n / 128)) d
  stations = subst (λ (x : Option Ending). At x (Some (n / 128)) d) h.at.1 h.stations

  abbrev told_of : Bool → View
  told_of b = if b then record w.front { words = words; told = Some (told.Sector e.request.number (n / 128) words) } else record w.front { words = words }

  abbrev pub next_at : (more last : Bool) → View
  next_at more last = if more then at_stage next_stage (told_of last) else at_stage last_stage (finished e (told_of last))

  -- word n + 1 is read next
  goes_on : HoldsMore config w g ready n next_stage → (p : Pipeline) → n + 1 < words_in e.request → At (Some e) (Some ((n + 1) / 128)) p
      → ((k : ℕ) → k < (n + 1) % 128 → slice_index words k ≡ data_word w.under.pages e.request ((n + 1) / 128 * 128 + k))
      → Holds config (finishing_at w next_stage w.front.ending w.front.pool words w.under.pages) g p next_stage w.back.stage
  goes_on more p further now so_far =
      more p words (e, h.at.1, h.at.2, (further, h.at.3.1, h.at.3.2)) sized
      (λ x same. subst (λ (y : Ending). (k : ℕ) → k < (n + 1) % 128 → slice_index words k ≡ data_word w.under.pages y.request ((n + 1) / 128 * 128 + k)) (same_Some e x (sym h.at.1 ∙ same)) so_far)
      (subst (λ (x : Option Ending). At x (Some ((n + 1) / 128)) p) (sym h.at.1) now)

  -- its sector is told, once it was read whole: the next one is told then, or it was the last
  told_next : (n % 128 == 127) ≡ true → (b : Bool) → nat_lt (n + 1) (words_in e.request) ≡ b
      → told_station (submitted_job transfer.Read e.request.sector e.request.count) (n / 128) ≡ told_on Okay (if b then Some (n / 128 + 1) else None)
  told_next u true t = let more : nat_lt (n / 128 + 1) e.request.count ≡ true = grind (arith, nat_tests) in rw more refl
  told_next u false t = let none : nat_lt (n / 128 + 1) e.request.count ≡ false = grind (arith, nat_tests) in rw none refl

  whole_told : (n % 128 == 127) ≡ true → (b : Bool) → nat_lt (n + 1) (words_in e.request) ≡ b
      → Stepped None IsSame d (lines.Data e.request.number (n / 128) words ∷ []) (At (told_ending e (if b then Some (n / 128 + 1) else None)) (if b then Some (n / 128 + 1) else None))
  whole_told u b t = tells config g d ready false (is_fetching w.back.stage) (reply_at w.back.stage) w.front.requests w.back.jobs.works w.under.pages words e
      (n / 128) (if b then Some (n / 128 + 1) else None) h.at.2.known h.at.2.positive h.at.3.1 (omega arith) (told_next u b t) sized (whole (grind (arith, nat_tests))) stations

  -- a word of data is read: the request is finished once all were told
  pub told_by : HoldsMore config w g ready n next_stage → HoldsAll config w g ready last_stage → Becomes (next_at (nat_lt (n + 1) (words_in e.request)) (n % 128 == 127))
  told_by more all = by_place (nat_lt (n + 1) (words_in e.request)) (n % 128 == 127) refl refl
    where
      by_place : (further last : Bool) → nat_lt (n + 1) (words_in e.request) ≡ further → (n % 128 == 127) ≡ last → Becomes (next_at further last)
      by_place true true t u =
          let further : n + 1 < words_in e.request = grind (arith, nat_tests) in
          let last : n % 128 ≡ 127 = grind (arith, nat_tests) in
          let s = whole_told u true t in
          goes_by (does_step (moves.FrontRead (frame_at e.request (n / 1024)) (n % 1024) word) (lines.Data e.request.number (n / 128) words ∷ []) refl s)
          (goes_on more (next d s.step) further (subst (λ (i : ℕ). At (Some e) (Some i) (next d s.step)) (omega (arith, last)) s.now) (λ k lt. absurd (omega (arith, last))))
      by_place true false t u =
          let further : n + 1 < words_in e.request = grind (arith, nat_tests) in
          let on : n % 128 ≢ 127 = grind (arith, nat_tests) in
          let same : n / 128 ≡ (n + 1) / 128 = omega (arith, on) in
          goes_by (said_nothing d (moves.FrontRead (frame_at e.request (n / 1024)) (n % 1024) word) w.front.told h.untold)
          (goes_on more d further (subst (λ (i : ℕ). At (Some e) (Some i) d) same stations)
          (λ k lt. read k (omega (arith, on)) ∙ ap (λ (i : ℕ). data_word w.under.pages e.request (i * 128 + k)) same))
      by_place false true t u =
          let s = whole_told u false t in
          goes_by (does_step (moves.FrontRead (frame_at e.request (n / 1024)) (n % 1024) word) (lines.Data e.request.number (n / 128) words ∷ []) refl s)
          (all (next d s.step) (with_all_free w.front.pool e.request.frames.items) words
          (pooled_free w.front.pool w.front.requests e (h.submitted.each (e.request.number - 1) e.request h.at.2.known).frames (subst (ArePooled w.front.pool w.front.requests) h.at.1 h.pool))
          sized s.now)
      by_place false false t u =
          let end : words_in e.request ≤ n + 1 = grind (arith, nat_tests) in
          let on : n % 128 ≢ 127 = grind (arith, nat_tests) in
          absurd (omega (arith, on))

-- while the ring is served: the next request is looked for after all
pub told_goes : (config : Options) (w : World) (g : Flow) (d : Pipeline) (n : ℕ)
    → w.front.told ≡ None
    → Holds config w g d (front.ReadData n) w.back.stage
    → FrontGoes config w d (front.ReadData n)
told_goes config w g d n untold h =
    subst (λ (x : Option Ending). ActGoes config w d (front.ReadData n) (read_ask x n)) (sym h.front_at.1)
    (subst (Becomes config w g d n (front.ReadData (n + 1)) front.Loop true t) (sym stepped) (told_by config w g d n (front.ReadData (n + 1)) front.Loop true t more all))
  where
    t : IsTelling config w g d true n
    t = record { untold = untold; at = h.front_at; submitted = h.submitted; size = h.telling.size; so_far = h.telling.so_far; pool = h.pool; stations = h.stations }

    stepped : data_step w.front.ending n (word config w g d n (front.ReadData (n + 1)) front.Loop true t) w.front ≡ next_at config w g d n (front.ReadData (n + 1)) front.Loop true t (nat_lt (n + 1) (words_in h.front_at.0.request)) (n % 128 == 127)
    stepped = ap (λ (x : Option Ending). data_step x n (word config w g d n (front.ReadData (n + 1)) front.Loop true t) w.front) h.front_at.1

    more : HoldsMore config w g true n (front.ReadData (n + 1))
    more p words at sized so_far now =
        ends_on config w g d p (front.ReadData n) (front.ReadData (n + 1)) w.front.ending w.front.pool words w.under.pages refl refl refl refl
        (omega arith) h now h.pool at (record { size = sized; so_far = so_far })
        (entries_turned h w.under.pages (front.ReadData (n + 1)) w.front.ending (omega arith) (omega arith) (λ k x lt a in_it. record { flags = refl; frame = refl }) h.entries.ending)
        h.memory (λ f from x lt. refl) (λ page lt. record { flags = refl; frame = refl })

    all : HoldsAll config w g true front.Loop
    all p pool words pooled sized now =
        ends_on config w g d p (front.ReadData n) front.Loop None pool words w.under.pages refl refl refl refl (omega arith) h now pooled tt (record { size = sized; so_far = tt })
        (entries_turned h w.under.pages front.Loop None (omega arith) (omega arith) (λ k x lt a in_it. record { flags = refl; frame = refl }) h.entries.ending)
        h.memory (λ f from x lt. refl) (λ page lt. record { flags = refl; frame = refl })
