-- What the back fetched in this epoch, one line further; and what lines show by the ring's pages.
use Rattle.std.proofs.Common.{◌≡◌, ℕ, Bool, true, false, if◌then◌else◌, List, [], ◌∷◌, ◌++◌, length, refl, ap, ◌∙◌, append-nil}
use Rattle.std.specs.Prelude.{Option, Some, None, is_some}
use Rattle.std.specs.List.{filter_map, list_any}
use Rattle.std.specs.Option.{option_to_list}
use Rattle.std.proofs.lemmas.List.Elements.{filter_map-append}
use Rattle.blk_base.specs.declared.moves.BackMover.TheVariants as back
use Rattle.blk_base.specs.declared.moves.Move.TheVariants as moves
use Rattle.schedule_text.specs.declared.line.Line.{Line}
use Rattle.schedule_text.specs.declared.line.Line.TheVariants as lines
use Rattle.report_rules.specs.declared.standing.Standing.{Standing}
use Rattle.report_rules.specs.Standing.{is_epoch, this_epoch}
use Rattle.report_rules.specs.Ring.{page_made, ring_pages}
use Rattle.report_rules.specs.Stretch.{of_entries, when, entry_value, Fetching, none_fetched, with_value, fetching_of, entries_read}
use Rattle.report_rules.specs.Job.{job_in, fetched_of}
use Rattle.report_rules.proofs.Fetching.{no_job}
use Rattle.report_rules.proofs.Prefixes.{fetching_more}
use Rattle.ring_check.specs.State.{word_on}
use Rattle.ring_check.proofs.Telling.{touches, IsNew, alone}
use Rattle.job_check.proofs.Telling.{one_of, longer, neither}

-- the word of an entry that a line shows, where these are the ring's pages
abbrev pub value_on : List Standing → Line → Option ℕ
value_on pages (lines.Move (moves.Read back.Back number frame word value)) = when (is_some (of_entries (word_on pages number word))) value
value_on pages line = None

value_is : (before : List Line) (line : Line) → entry_value before line ≡ value_on (ring_pages before) line
value_is before (lines.Move (moves.Read back.Back number frame word value)) = refl
value_is before line = refl

pub map_same : (f g : Line → Option ℕ) (xs : List Line) → ((x : Line) → f x ≡ g x) → filter_map f xs ≡ filter_map g xs
map_same f g [] same = refl
map_same f g (x ∷ xs) same = rw (same x, map_same f g xs same) refl

map_apart : (f g : Line → Option ℕ) (m : ℕ) (xs : List Line) → ((x : Line) → touches m x ≡ false → f x ≡ g x) → list_any (touches m) xs ≡ false → filter_map f xs ≡ filter_map g xs
map_apart f g m [] same none = refl
map_apart f g m (x ∷ xs) same none =
    let no = neither (touches m x) (list_any (touches m) xs) none in
    rw (same x no.0, map_apart f g m xs same no.1) refl

abbrev pub Stays : (List Standing → Line → Option ℕ) → Type 0
Stays f = (pages : List Standing) (p : Standing) (line : Line) → touches p.number line ≡ false → f (pages ++ p ∷ []) line ≡ f pages line

-- a page that these lines do not touch changes nothing of what they show
pub shown_kept : (f : List Standing → Line → Option ℕ) → Stays f → (pages : List Standing) (made : Option Standing) (xs : List Line) → IsNew made xs → filter_map (f (pages ++ option_to_list made)) xs ≡ filter_map (f pages) xs
shown_kept f stays pages None xs new = ap (λ (ps : List Standing). filter_map (f ps) xs) (append-nil pages)
shown_kept f stays pages (Some p) xs new = map_apart (f (pages ++ p ∷ [])) (f pages) p.number xs (stays pages p) new

pub pages_more : (before : List Line) (line : Line) → is_epoch line ≡ false → ring_pages (before ++ line ∷ []) ≡ ring_pages before ++ option_to_list (page_made line)
pages_more before line e =
    ap (λ (xs : List Line). filter_map page_made xs) (longer before line e)
    ∙ (filter_map-append page_made (this_epoch before) (line ∷ []) ∙ ap (λ (ps : List Standing). ring_pages before ++ ps) (one_of (page_made line)))

-- what the lines of this epoch show by the ring's pages, with one line more, which makes no page that was touched
pub shown_with : (f : List Standing → Line → Option ℕ) → Stays f → (before : List Line) (line : Line) → is_epoch line ≡ false → IsNew (page_made line) (this_epoch before)
    → filter_map (f (ring_pages (before ++ line ∷ []))) (this_epoch (before ++ line ∷ [])) ≡ filter_map (f (ring_pages before)) (this_epoch before) ++ option_to_list (f (ring_pages before) line)
shown_with f stays before line e new =
    let made : Option Standing = page_made line in
    let old : List ℕ = filter_map (f (ring_pages before)) (this_epoch before) in
    ap (λ (ps : List Standing). filter_map (f ps) (this_epoch (before ++ line ∷ []))) (pages_more before line e)
    ∙ (ap (λ (xs : List Line). filter_map (f (ring_pages before ++ option_to_list made)) xs) (longer before line e)
    ∙ (filter_map-append (f (ring_pages before ++ option_to_list made)) (this_epoch before) (line ∷ [])
    ∙ (ap (λ (vs : List ℕ). vs ++ filter_map (f (ring_pages before ++ option_to_list made)) (line ∷ [])) (shown_kept f stays (ring_pages before) made (this_epoch before) new)
    ∙ (ap (λ (vs : List ℕ). old ++ vs) (one_of (f (ring_pages before ++ option_to_list made) line))
    ∙ ap (λ (o : Option ℕ). old ++ option_to_list o) (alone f stays (ring_pages before) line)))))

-- ---- what is fetched
pub record IsFetching (before : List Line) (fetched : ℕ) (entry : List ℕ) : Type 0 where
  pub count : entries_read before ≡ fetched
  pub words : (fetching_of before).words ≡ entry

pub fetching_none : IsFetching [] 0 []
fetching_none = record { count = refl; words = refl }

fetching_by : (before : List Line) (line : Line) (epoch : Bool) (o : Option ℕ) → is_epoch line ≡ epoch → value_on (ring_pages before) line ≡ o → fetching_of (before ++ line ∷ []) ≡ (if epoch then none_fetched else with_value before (fetching_of before) o)
fetching_by before line epoch o e shows =
    fetching_more before line
    ∙ (ap (λ (b : Bool). if b then none_fetched else with_value before (fetching_of before) (entry_value before line)) e
    ∙ ap (λ (v : Option ℕ). if epoch then none_fetched else with_value before (fetching_of before) v) (value_is before line ∙ shows))

emptied : (before : List Line) (line : Line) → is_epoch line ≡ true → fetching_of (before ++ line ∷ []) ≡ none_fetched
emptied before line e = fetching_by before line true (value_on (ring_pages before) line) e refl

pub fetching_anew : (before : List Line) (line : Line) → is_epoch line ≡ true → IsFetching (before ++ line ∷ []) 0 []
fetching_anew before line e = record { count = ap (λ (f : Fetching). length f.jobs) (emptied before line e); words = ap (λ (f : Fetching). f.words) (emptied before line e) }

pub fetched_anew : (before : List Line) (line : Line) (k : ℕ) → is_epoch line ≡ true → fetched_of (before ++ line ∷ []) k ≡ None
fetched_anew before line k e = ap (λ (f : Fetching). job_in f.jobs k) (emptied before line e) ∙ no_job k

no_value_none : (o : Option ℕ) → is_some o ≡ false → o ≡ None
no_value_none None e = refl
no_value_none (Some v) e = absurd (cc)

-- a line that reads no word of an entry
still : (before : List Line) (line : Line) → is_epoch line ≡ false → is_some (value_on (ring_pages before) line) ≡ false → fetching_of (before ++ line ∷ []) ≡ fetching_of before
still before line e none = fetching_by before line false None e (no_value_none (value_on (ring_pages before) line) none)

pub fetched_still : (before : List Line) (line : Line) (k : ℕ) → is_epoch line ≡ false → is_some (value_on (ring_pages before) line) ≡ false → fetched_of (before ++ line ∷ []) k ≡ fetched_of before k
fetched_still before line k e none = ap (λ (f : Fetching). job_in f.jobs k) (still before line e none)

pub fetching_still : (before : List Line) (line : Line) (fetched : ℕ) (entry : List ℕ) → IsFetching before fetched entry → is_epoch line ≡ false → is_some (value_on (ring_pages before) line) ≡ false → IsFetching (before ++ line ∷ []) fetched entry
fetching_still before line fetched entry is e none = record {
  count = ap (λ (f : Fetching). length f.jobs) (still before line e none) ∙ is.count;
  words = ap (λ (f : Fetching). f.words) (still before line e none) ∙ is.words;
}

-- ---- a line that reads a word of an entry
pub record IsRead (before : List Line) (line : Line) (value : ℕ) : Type 0 where
  pub same : is_epoch line ≡ false
  pub shows : value_on (ring_pages before) line ≡ Some value

pub fetching_read : (before : List Line) (line : Line) (value : ℕ) → IsRead before line value → fetching_of (before ++ line ∷ []) ≡ with_value before (fetching_of before) (Some value)
fetching_read before line value r = fetching_by before line false (Some value) r.same r.shows
