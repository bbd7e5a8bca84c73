-- The words of entries that the back read in this epoch, one after another, and how entries are counted by them. The rules count an entry once it is whole, by the layout of the moment; that stays once a page of the ring is mapped, so that they are counted as well by all words together.
use Rattle.std.proofs.Common.{◌≡◌, ℕ, ◌+◌, ◌-◌, ◌*◌, ◌%◌, ◌<◌, ◌==◌, Bool, true, false, if◌then◌else◌, List, [], ◌∷◌, ◌++◌, length, take, drop, refl, ap, sym, ◌∙◌, subst, append-nil, length-append, arith}
use Rattle.std.specs.Prelude.{fold, reverse, Option, Some, None, is_some, option_map}
use Rattle.std.specs.List.{filter_map, cons_option}
use Rattle.std.specs.Option.{option_to_list}
use Rattle.std.proofs.lemmas.Bool.Decides.{nat_tests}
use Rattle.std.proofs.lemmas.List.{reverse-append, reverse-reverse}
use Rattle.std.proofs.lemmas.List.Sums.{fold-append}
use Rattle.std.proofs.lemmas.List.Elements.{filter_map-append}
use Rattle.blk_base.specs.declared.operation.Abi.{Abi}
use Rattle.blk_base.specs.declared.operation.Abi.TheVariants.{X64, X32}
use Rattle.blk_base.specs.declared.moves.BackMover.TheVariants as back
use Rattle.blk_base.specs.declared.moves.Move.TheVariants as moves
use Rattle.blk_layout.specs.Entry.{request_of}
use Rattle.ring_words.specs.Shape.{entry_words_of}
use Rattle.schedule_text.specs.declared.line.Line.{Line}
use Rattle.schedule_text.specs.declared.line.Line.TheVariants as lines
use Rattle.report_rules.specs.declared.standing.Standing.{Standing}
use Rattle.report_rules.specs.declared.job.Fetched.{Fetched}
use Rattle.report_rules.specs.Standing.{is_epoch, this_epoch}
use Rattle.report_rules.specs.Ring.{page_made, page_from, word_in, ring_pages, abi_after, ring_abi}
use Rattle.report_rules.specs.Stretch.{of_entries, when, entry_value, Fetching, none_fetched, entry_of, fetched_with, with_words, with_value, fetching_of, entries_read, words_within}
use Rattle.report_rules.specs.Job.{job_in, fetched_of}
use Rattle.report_rules.proofs.Fetching.{job_kept}
use Rattle.report_rules.proofs.Back.{epoch_more}
use Rattle.report_rules.proofs.Prefixes.{fetching_more}
use Rattle.ring_laws.specs.Layout.{reads_protocol, IsNamedFirstAt}
use Rattle.ring_laws.proofs.Sight.{same_abi}

abbrev pub values_after : List ℕ → List Line → Line → List ℕ
values_after values before line = if is_epoch line then [] else values ++ option_to_list (entry_value before line)

-- the same of lines of which the last comes first
abbrev pub values_back : List Line → List ℕ
values_back [] = []
values_back (line ∷ earlier) = values_after (values_back earlier) (reverse earlier) line

abbrev pub entry_values : List Line → List ℕ
entry_values before = values_back (reverse before)

abbrev pub words_read : List Line → ℕ
words_read before = length (entry_values before)

-- the words of the k-th entry, from 1, where each has so many
abbrev pub words_of_job : List ℕ → ℕ → ℕ → List ℕ
words_of_job values size k = take size (drop ((k - 1) * size) values)

values_then : (before : List Line) (line : Line) → entry_values (before ++ line ∷ []) ≡ values_after (entry_values before) before line
values_then before line = ap values_back (reverse-append before (line ∷ [])) ∙ ap (λ (ls : List Line). values_after (values_back (reverse before)) ls line) (reverse-reverse before)

pub values_more : (before : List Line) (line : Line) → is_epoch line ≡ false → entry_values (before ++ line ∷ []) ≡ entry_values before ++ option_to_list (entry_value before line)
values_more before line same = values_then before line ∙ ap (λ (b : Bool). if b then [] else entry_values before ++ option_to_list (entry_value before line)) same

pub values_still : (before : List Line) (line : Line) → is_epoch line ≡ false → entry_value before line ≡ None → entry_values (before ++ line ∷ []) ≡ entry_values before
values_still before line same none = values_more before line same ∙ (ap (λ (v : Option ℕ). entry_values before ++ option_to_list v) none ∙ append-nil (entry_values before))

pub values_anew : (before : List Line) → entry_values (before ++ lines.Epoch ∷ []) ≡ []
values_anew before = values_then before lines.Epoch

-- ---- what is fetched, one line further
pub fetching_then : (before : List Line) (line : Line) (o : Option ℕ) → is_epoch line ≡ false → entry_value before line ≡ o → fetching_of (before ++ line ∷ []) ≡ with_value before (fetching_of before) o
fetching_then before line o same is =
    fetching_more before line
    ∙ (ap (λ (b : Bool). if b then none_fetched else with_value before (fetching_of before) (entry_value before line)) same
    ∙ ap (λ (v : Option ℕ). with_value before (fetching_of before) v) is)

pub fetching_anew : (before : List Line) → fetching_of (before ++ lines.Epoch ∷ []) ≡ none_fetched
fetching_anew before = fetching_more before lines.Epoch

-- what was fetched stays so in its epoch
pub fetched_stays : (before : List Line) (line : Line) (k : ℕ) (f : Fetched) → is_epoch line ≡ false → fetched_of before k ≡ Some f → fetched_of (before ++ line ∷ []) k ≡ Some f
fetched_stays before line k f same known = by_value (entry_value before line) refl
  where
    by_job : (ws : List ℕ) (o : Option Fetched) → job_in (with_words (fetching_of before) ws o).jobs k ≡ Some f
    by_job ws None = known
    by_job ws (Some x) = job_kept (fetching_of before).jobs x f k known

    by_value : (o : Option ℕ) → entry_value before line ≡ o → fetched_of (before ++ line ∷ []) k ≡ Some f
    by_value None is = ap (λ (g : Fetching). job_in g.jobs k) (fetching_then before line None same is) ∙ known
    by_value (Some value) is =
        ap (λ (g : Fetching). job_in g.jobs k) (fetching_then before line (Some value) same is)
        ∙ by_job ((fetching_of before).words ++ value ∷ []) (option_map (fetched_with before) (entry_of (ring_abi before) ((fetching_of before).words ++ value ∷ [])))

-- ---- pages and layout, one line further
-- the lines of the epoch, with one more
pub epoch_longer : (before : List Line) (line : Line) → is_epoch line ≡ false → this_epoch (before ++ line ∷ []) ≡ this_epoch before ++ line ∷ []
epoch_longer before line same = epoch_more before line ∙ ap (λ (b : Bool). if b then [] else this_epoch before ++ line ∷ []) same

one_page : (made : Option Standing) → cons_option made [] ≡ option_to_list made
one_page None = refl
one_page (Some m) = refl

pub pages_more : (before : List Line) (line : Line) → is_epoch line ≡ false → ring_pages (before ++ line ∷ []) ≡ ring_pages before ++ option_to_list (page_made line)
pages_more before line same =
    ap (λ (ls : List Line). filter_map page_made ls) (epoch_longer before line same)
    ∙ (filter_map-append page_made (this_epoch before) (line ∷ []) ∙ ap (λ (ps : List Standing). ring_pages before ++ ps) (one_page (page_made line)))

pub abi_more : (before : List Line) (line : Line) → is_epoch line ≡ false → ring_abi (before ++ line ∷ []) ≡ abi_after (ring_abi before) line
abi_more before line same = ap (λ (ls : List Line). fold abi_after (Some X64) ls) (epoch_longer before line same) ∙ fold-append abi_after (Some X64) (this_epoch before) (line ∷ [])

-- ---- how entries are counted
-- so many words are so many entries of this layout, and so many words of the next
abbrev pub AreCounted : Option Abi → ℕ → ℕ → ℕ → Type 0
AreCounted None words entries within = (entries ≡ 0) × (within ≡ words)
AreCounted (Some abi) words entries within = (words ≡ entry_words_of abi * entries + within) × (within < entry_words_of abi)

-- nothing is read of a ring without pages; and the entries are counted by the layout of the moment
pub record IsCounted (before : List Line) : Type 0 where
  pub unread : ring_pages before ≡ [] → (entry_values before ≡ []) × (fetching_of before ≡ none_fetched)
  pub counts : AreCounted (ring_abi before) (words_read before) (entries_read before) (words_within before)

pub none_counted : (abi : Option Abi) → AreCounted abi 0 0 0
none_counted None = (refl, refl)
none_counted (Some X64) = (omega arith, omega arith)
none_counted (Some X32) = (omega arith, omega arith)

counted_nothing : (before : List Line) → entry_values before ≡ [] → fetching_of before ≡ none_fetched → AreCounted (ring_abi before) (words_read before) (entries_read before) (words_within before)
counted_nothing before empty none =
    subst (λ (f : Fetching). AreCounted (ring_abi before) (words_read before) (length f.jobs) (length f.words)) (sym none)
    (subst (λ (vs : List ℕ). AreCounted (ring_abi before) (length vs) 0 0) (sym empty) (none_counted (ring_abi before)))

pub counted_none : IsCounted []
counted_none = record { unread = λ none. (refl, refl); counts = counted_nothing [] refl refl }

pub counted_anew : (before : List Line) → IsCounted (before ++ lines.Epoch ∷ [])
counted_anew before = record { unread = λ none. (values_anew before, fetching_anew before); counts = counted_nothing (before ++ lines.Epoch ∷ []) (values_anew before) (fetching_anew before) }

-- no word is read of a ring without pages
pageless : (before : List Line) (line : Line) → ring_pages before ≡ [] → entry_value before line ≡ None
pageless before (lines.Move (moves.Read back.Back number frame word value)) none = ap (λ (pages : List Standing). when (is_some (of_entries (word_in (page_from 0 number pages) word))) value) none
pageless before line none = refl

first_none : (xs ys : List Standing) → xs ++ ys ≡ [] → xs ≡ []
first_none [] ys e = refl
first_none (x ∷ xs) ys e = absurd (cc)

nothing_still : (before : List Line) (line : Line) → is_epoch line ≡ false → IsCounted before → ring_pages before ≡ [] → (entry_values (before ++ line ∷ []) ≡ []) × (fetching_of (before ++ line ∷ []) ≡ none_fetched)
nothing_still before line same c none =
    let unread = pageless before line none in
    let old = c.unread none in
    (values_still before line same unread ∙ old.0, fetching_then before line None same unread ∙ old.1)

pub one_word : (before : List Line) (f : Fetching) (value words : ℕ) (abi : Option Abi) → AreCounted abi words (length f.jobs) (length f.words)
    → (let g : Fetching = with_words f (f.words ++ value ∷ []) (option_map (fetched_with before) (entry_of abi (f.words ++ value ∷ []))) in AreCounted abi (words + 1) (length g.jobs) (length g.words))
one_word before f value words None c = (c.0, length-append f.words (value ∷ []) ∙ ap (λ (n : ℕ). n + 1) c.1)
one_word before f value words (Some abi) c = by_test (length (f.words ++ value ∷ []) == entry_words_of abi) refl
  where
    long : length (f.words ++ value ∷ []) ≡ length f.words + 1
    long = length-append f.words (value ∷ [])

    full : (a : Abi) (n m l : ℕ) → words ≡ entry_words_of a * n + m → l ≡ m + 1 → l ≡ entry_words_of a → (words + 1 ≡ entry_words_of a * (n + 1) + 0) × (0 < entry_words_of a)
    full X64 n m l e is test = (omega arith, omega arith)
    full X32 n m l e is test = (omega arith, omega arith)

    part : (a : Abi) (n m l : ℕ) → words ≡ entry_words_of a * n + m → m < entry_words_of a → l ≡ m + 1 → (l == entry_words_of a) ≡ false → (words + 1 ≡ entry_words_of a * n + l) × (l < entry_words_of a)
    part X64 n m l e less is test = (omega arith, grind (arith, nat_tests))
    part X32 n m l e less is test = (omega arith, grind (arith, nat_tests))

    by_test : (b : Bool) → (length (f.words ++ value ∷ []) == entry_words_of abi) ≡ b
        → (let g : Fetching = with_words f (f.words ++ value ∷ []) (option_map (fetched_with before) (if b then Some (request_of abi (f.words ++ value ∷ [])) else None)) in AreCounted (Some abi) (words + 1) (length g.jobs) (length g.words))
    by_test true t =
        let same : length (f.words ++ value ∷ []) ≡ entry_words_of abi = grind (arith, nat_tests) in
        subst (λ (n : ℕ). AreCounted (Some abi) (words + 1) n 0) (sym (length-append f.jobs _)) (full abi (length f.jobs) (length f.words) (length (f.words ++ value ∷ [])) c.0 long same)
    by_test false t = part abi (length f.jobs) (length f.words) (length (f.words ++ value ∷ [])) c.0 c.1 long t

-- one line further, which reads of the layout only while the ring has no page
pub counted_more : (before : List Line) (line : Line) → is_epoch line ≡ false → IsNamedFirstAt before line → IsCounted before → IsCounted (before ++ line ∷ [])
counted_more before line same first c = record {
  unread = λ none. nothing_still before line same c (first_none (ring_pages before) (option_to_list (page_made line)) (sym (pages_more before line same) ∙ none));
  counts = by_read (reads_protocol line) refl;
}
  where
    by_value : (o : Option ℕ) → entry_value before line ≡ o → AreCounted (ring_abi before) (words_read (before ++ line ∷ [])) (entries_read (before ++ line ∷ [])) (words_within (before ++ line ∷ []))
    by_value None is =
        subst (λ (f : Fetching). AreCounted (ring_abi before) (words_read (before ++ line ∷ [])) (length f.jobs) (length f.words)) (sym (fetching_then before line None same is))
        (subst (λ (vs : List ℕ). AreCounted (ring_abi before) (length vs) (entries_read before) (words_within before)) (sym (values_still before line same is)) c.counts)
    by_value (Some value) is =
        let more : words_read (before ++ line ∷ []) ≡ words_read before + 1 =
        ap (λ (vs : List ℕ). length vs) (values_more before line same ∙ ap (λ (o : Option ℕ). entry_values before ++ option_to_list o) is) ∙ length-append (entry_values before) (value ∷ []) in
        subst (λ (f : Fetching). AreCounted (ring_abi before) (words_read (before ++ line ∷ [])) (length f.jobs) (length f.words)) (sym (fetching_then before line (Some value) same is))
        (subst (λ (n : ℕ). AreCounted (ring_abi before) n (length (with_value before (fetching_of before) (Some value)).jobs) (length (with_value before (fetching_of before) (Some value)).words)) (sym more)
        (one_word before (fetching_of before) value (words_read before) (ring_abi before) c.counts))

    by_read : (b : Bool) → reads_protocol line ≡ b → AreCounted (ring_abi (before ++ line ∷ [])) (words_read (before ++ line ∷ [])) (entries_read (before ++ line ∷ [])) (words_within (before ++ line ∷ []))
    by_read true read = let nothing = nothing_still before line same c (first read) in counted_nothing (before ++ line ∷ []) nothing.0 nothing.1
    by_read false unread =
        subst (λ (a : Option Abi). AreCounted a (words_read (before ++ line ∷ [])) (entries_read (before ++ line ∷ [])) (words_within (before ++ line ∷ []))) (sym (abi_more before line same ∙ same_abi (ring_abi before) line unread))
        (by_value (entry_value before line) refl)

-- ---- what the counts say
-- of this layout so many entries were read, and so many words of the next one
pub counts_are : (abi : Abi) (words entries within count k : ℕ) → AreCounted (Some abi) words entries within → words ≡ entry_words_of abi * count + k → k < entry_words_of abi → (entries ≡ count) × (within ≡ k)
counts_are X64 words entries within count k c e less = let is = c.0 in let short = c.1 in (omega arith, omega arith)
counts_are X32 words entries within count k c e less = let is = c.0 in let short = c.1 in (omega arith, omega arith)

-- the words of whole entries were read, whichever layout was named last
abbrev pub AreWhole : Option Abi → ℕ → Type 0
AreWhole None words = words ≡ 0
AreWhole (Some abi) words = words % entry_words_of abi ≡ 0

pub none_whole : (abi : Option Abi) (words : ℕ) → words ≡ 0 → AreWhole abi words
none_whole None words none = none
none_whole (Some X64) words none = omega arith
none_whole (Some X32) words none = omega arith

pub whole_within : (abi : Option Abi) (words entries within : ℕ) → AreCounted abi words entries within → AreWhole abi words → within ≡ 0
whole_within None words entries within c whole = c.1 ∙ whole
whole_within (Some X64) words entries within c whole = let is = c.0 in let short = c.1 in omega arith
whole_within (Some X32) words entries within c whole = let is = c.0 in let short = c.1 in omega arith
