-- What was fetched for each job, by the lines so far: the request that its entry's words tell, of the disk of the options, where no grants are persistent.
use Rattle.std.proofs.Common.{◌≡◌, ℕ, ◌+◌, ◌-◌, ◌*◌, ◌≤◌, ◌==◌, Bool, true, false, if◌then◌else◌, List, [], ◌∷◌, ◌++◌, length, take, drop, refl, ap, sym, ◌∙◌, subst, append_assoc, append-nil, length-append, arith}
use Rattle.std.specs.Prelude.{Option, Some, None, option_map}
use Rattle.std.specs.List.{AllByRecursion}
use Rattle.std.specs.Option.{option_to_list}
use Rattle.std.proofs.lemmas.Bool.Decides.{nat_tests}
use Rattle.std.proofs.lemmas.List.{take_all, drop_all, drop-append-le}
use Rattle.blk_base.specs.declared.operation.Abi.{Abi}
use Rattle.blk_base.specs.declared.operation.Abi.TheVariants.{X64, X32}
use Rattle.blk_layout.specs.declared.request.RawRequest.{RawRequest}
use Rattle.blk_layout.specs.Entry.{request_of}
use Rattle.segment_list.specs.declared.verdict.DiskInfo.{DiskInfo}
use Rattle.ring_words.specs.Shape.{Shape, entry_words_of}
use Rattle.schedule_text.specs.declared.line.Line.{Line}
use Rattle.report_rules.specs.declared.job.Fetched.{Fetched}
use Rattle.report_rules.specs.Standing.{is_epoch}
use Rattle.report_rules.specs.Ring.{page_made, ring_order, ring_abi, shape_of, ring_shape}
use Rattle.report_rules.specs.Stretch.{entry_value, Fetching, none_fetched, entry_of, fetched_with, with_words, fetching_of}
use Rattle.report_rules.specs.Published.{is_persistent}
use Rattle.report_rules.specs.Job.{job_in, fetched_of}
use Rattle.report_rules.proofs.Fetching.{job_kept, job_last}
use Rattle.blk_back.specs.View.{info_of as back_info}
use Rattle.ring_laws.proofs.Sight.{is_touch, is_other, other_epoch, other_touch}
use Rattle.ring_laws.proofs.EntryWords.{entry_values, words_of_job, values_more, values_still, fetching_then, AreCounted, none_counted, one_word}
use Rattle.ring_laws.proofs.Shows.{untouched_value}
use Rattle.ring_laws.proofs.Began.{Terms, request_at, entry_begins}
use Rattle.ring_laws.proofs.Works.{entry_kept}
use Rattle.ring_laws.proofs.Bystanders.{Tale, not_persistent, IsBystander, plain_epoch}

-- what is fetched for a job by these words of entries
abbrev pub fetched_in : Terms → List ℕ → ℕ → Fetched
fetched_in terms values k = record { request = request_at terms.abi values k; disk = back_info terms.config; persistent = false }

-- by all words of entries: how many entries are whole, the words of the next one, and what was fetched for each
pub record AreFetchedBy (terms : Terms) (f : Fetching) (values : List ℕ) : Type 0 where
  pub counts : AreCounted (Some terms.abi) (length values) (length f.jobs) (length f.words)
  pub words : f.words ≡ drop (entry_words_of terms.abi * length f.jobs) values
  pub each : (k : ℕ) → 1 ≤ k → k ≤ length f.jobs → job_in f.jobs k ≡ Some (fetched_in terms values k)

-- the lines tell just that
abbrev pub AreFetched : Terms → List Line → Type 0
AreFetched terms before = AreFetchedBy terms (fetching_of before) (entry_values before)

-- before a word was read nothing was fetched, whatever the terms
nothing_by : (terms : Terms) → AreFetchedBy terms none_fetched []
nothing_by terms = record {
  counts = none_counted (Some terms.abi);
  words = sym (drop_all (entry_words_of terms.abi * length none_fetched.jobs) [] (omega arith));
  each = λ k first last. absurd (omega arith);
}

same_by : (terms : Terms) (f g : Fetching) (values more : List ℕ) → g ≡ f → more ≡ values → AreFetchedBy terms f values → AreFetchedBy terms g more
same_by terms f g values more p q a = subst (λ (x : Fetching). AreFetchedBy terms x more) (sym p) (subst (λ (vs : List ℕ). AreFetchedBy terms f vs) (sym q) a)

pub nothing_fetched : (terms : Terms) (before : List Line) → fetching_of before ≡ none_fetched → entry_values before ≡ [] → AreFetched terms before
nothing_fetched terms before none empty = same_by terms none_fetched (fetching_of before) [] (entry_values before) none empty (nothing_by terms)

-- without a word there are no jobs
no_entries : (abi : Abi) (n entries within : ℕ) → n ≡ 0 → AreCounted (Some abi) n entries within → (entries ≡ 0) × (within ≡ 0)
no_entries X64 n entries within none c = let is = c.0 in (omega arith, omega arith)
no_entries X32 n entries within none c = let is = c.0 in (omega arith, omega arith)

empty_of : {X : Type 0} (xs : List X) → length xs ≡ 0 → xs ≡ []
empty_of [] e = refl
empty_of (x ∷ xs) e = absurd (omega arith)

pub fetched_anew : (terms next : Terms) (before : List Line) → entry_values before ≡ [] → AreFetched terms before → AreFetched next before
fetched_anew terms next before none are =
    let both = no_entries terms.abi (length (entry_values before)) (length (fetching_of before).jobs) (length (fetching_of before).words) (ap (λ (vs : List ℕ). length vs) none) are.counts in
    by_parts (fetching_of before) refl (empty_of (fetching_of before).jobs both.0) (empty_of (fetching_of before).words both.1)
  where
    joined : (jobs : List Fetched) (words : List ℕ) → jobs ≡ [] → words ≡ [] → (let f : Fetching = record { jobs = jobs; words = words } in f ≡ none_fetched)
    joined jobs words p q = rw (p, q) refl

    by_parts : (f : Fetching) → fetching_of before ≡ f → f.jobs ≡ [] → f.words ≡ [] → AreFetched next before
    by_parts f is p q = nothing_fetched next before (is ∙ joined f.jobs f.words p q) none

-- ---- a word more
-- the entries that were read before end before these words do
ends_within : (abi : Abi) (k n m l : ℕ) → k ≤ n → l ≡ entry_words_of abi * n + m → entry_words_of abi * k ≤ l
ends_within X64 k n m l le e = omega arith
ends_within X32 k n m l le e = omega arith

-- what a word more makes of it, by how many words there are then
abbrev GrowsTo : Terms → List Line → Fetching → ℕ → ℕ → Type 0
GrowsTo terms before f value n =
    (let g : Fetching = with_words f (f.words ++ value ∷ []) (option_map (fetched_with before) (entry_of (Some terms.abi) (f.words ++ value ∷ []))) in AreCounted (Some terms.abi) n (length g.jobs) (length g.words))

one_entry : (terms : Terms) (before : List Line) (f : Fetching) (values : List ℕ) (value : ℕ) → ((request : RawRequest) → fetched_with before request ≡ record { request = request; disk = back_info terms.config; persistent = false }) → AreFetchedBy terms f values
    → AreFetchedBy terms (with_words f (f.words ++ value ∷ []) (option_map (fetched_with before) (entry_of (Some terms.abi) (f.words ++ value ∷ [])))) (values ++ value ∷ [])
one_entry terms before f values value facts a =
    by_test (length (f.words ++ value ∷ []) == entry_words_of terms.abi) refl (subst (λ (n : ℕ). GrowsTo terms before f value n) (sym (length-append values (value ∷ []))) (one_word before f value (length values) (Some terms.abi) a.counts))
  where
    upto : entry_words_of terms.abi * length f.jobs ≤ length values
    upto = let e = a.counts.0 in omega arith

    next : f.words ++ value ∷ [] ≡ drop (entry_words_of terms.abi * length f.jobs) (values ++ value ∷ [])
    next = ap (λ (ws : List ℕ). ws ++ value ∷ []) a.words ∙ sym (drop-append-le (entry_words_of terms.abi * length f.jobs) values (value ∷ []) upto)

    kept : (k : ℕ) → 1 ≤ k → k ≤ length f.jobs → job_in f.jobs k ≡ Some (fetched_in terms (values ++ value ∷ []) k)
    kept k first last =
        let whole = entry_kept terms.abi values (value ∷ []) k first (ends_within terms.abi k (length f.jobs) (length f.words) (length values) last a.counts.0) in
        a.each k first last ∙ ap (λ (ws : List ℕ). Some (record { request = request_of terms.abi ws; disk = back_info terms.config; persistent = false })) (sym whole)

    last_job : length (f.words ++ value ∷ []) ≡ entry_words_of terms.abi → fetched_with before (request_of terms.abi (f.words ++ value ∷ [])) ≡ fetched_in terms (values ++ value ∷ []) (length f.jobs + 1)
    last_job full =
        let at : (length f.jobs + 1 - 1) * entry_words_of terms.abi ≡ entry_words_of terms.abi * length f.jobs = sym (entry_begins terms.abi (length f.jobs + 1)) ∙ ap (λ (n : ℕ). entry_words_of terms.abi * n) (omega arith) in
        let taken : words_of_job (values ++ value ∷ []) (entry_words_of terms.abi) (length f.jobs + 1) ≡ f.words ++ value ∷ [] =
        ap (λ (n : ℕ). take (entry_words_of terms.abi) (drop n (values ++ value ∷ []))) at
        ∙ (ap (take (entry_words_of terms.abi)) (sym next) ∙ take_all (entry_words_of terms.abi) (f.words ++ value ∷ []) (omega arith)) in
        facts (request_of terms.abi (f.words ++ value ∷ [])) ∙ ap (λ (ws : List ℕ). record { request = request_of terms.abi ws; disk = back_info terms.config; persistent = false }) (sym taken)

    by_number : (k : ℕ) (b : Bool) (x : Fetched) → (k == length f.jobs + 1) ≡ b → 1 ≤ k → k ≤ length f.jobs + 1 → x ≡ fetched_in terms (values ++ value ∷ []) (length f.jobs + 1) → job_in (f.jobs ++ x ∷ []) k ≡ Some (fetched_in terms (values ++ value ∷ []) k)
    by_number k true x t first last is =
        let same : k ≡ length f.jobs + 1 = grind (arith, nat_tests) in
        job_last f.jobs x k same ∙ (ap (λ (y : Fetched). Some y) is ∙ ap (λ (n : ℕ). Some (fetched_in terms (values ++ value ∷ []) n)) (sym same))
    by_number k false x t first last is = job_kept f.jobs x (fetched_in terms (values ++ value ∷ []) k) k (kept k first (grind (arith, nat_tests)))

    by_test : (b : Bool) → (length (f.words ++ value ∷ []) == entry_words_of terms.abi) ≡ b
        → (let g : Fetching = with_words f (f.words ++ value ∷ []) (option_map (fetched_with before) (if b then Some (request_of terms.abi (f.words ++ value ∷ [])) else None)) in AreCounted (Some terms.abi) (length (values ++ value ∷ [])) (length g.jobs) (length g.words))
        → AreFetchedBy terms (with_words f (f.words ++ value ∷ []) (option_map (fetched_with before) (if b then Some (request_of terms.abi (f.words ++ value ∷ [])) else None))) (values ++ value ∷ [])
    by_test false t counts = record { counts = counts; words = next; each = kept }
    by_test true t counts =
        let full : length (f.words ++ value ∷ []) ≡ entry_words_of terms.abi = grind (arith, nat_tests) in
        let more = length-append f.jobs (fetched_with before (request_of terms.abi (f.words ++ value ∷ [])) ∷ []) in
        let all = counts.0 in
        record {
          counts = counts;
          words = sym (drop_all (entry_words_of terms.abi * length (f.jobs ++ fetched_with before (request_of terms.abi (f.words ++ value ∷ [])) ∷ [])) (values ++ value ∷ []) (omega arith));
          each = λ k first last. by_number k (k == length f.jobs + 1) (fetched_with before (request_of terms.abi (f.words ++ value ∷ []))) refl first (omega arith) (last_job full);
        }

-- ---- lines
-- a line that reads no word of an entry leaves it
pub fetched_still : (before : List Line) (line : Line) (k : ℕ) → is_epoch line ≡ false → entry_value before line ≡ None → fetched_of (before ++ line ∷ []) k ≡ fetched_of before k
fetched_still before line k same none = ap (λ (f : Fetching). job_in f.jobs k) (fetching_then before line None same none)

still_fetched : (terms : Terms) (before : List Line) (line : Line) → is_epoch line ≡ false → entry_value before line ≡ None → AreFetched terms before → AreFetched terms (before ++ line ∷ [])
still_fetched terms before line same none are = same_by terms (fetching_of before) (fetching_of (before ++ line ∷ [])) (entry_values before) (entry_values (before ++ line ∷ [])) (fetching_then before line None same none) (values_still before line same none) are

-- lines that the rules on the ring pass over
abbrev pub AreOther : List Line → Type 0
AreOther ls = AllByRecursion (λ (line : Line). is_other line ≡ true) ls

other_unread : (before : List Line) (line : Line) → is_other line ≡ true → entry_value before line ≡ None
other_unread before line other = untouched_value before line (other_touch line other)

pub values_aside : (ys before : List Line) → AreOther ys → entry_values (before ++ ys) ≡ entry_values before
values_aside [] before all = ap entry_values (append-nil before)
values_aside (y ∷ ys) before all =
    ap entry_values (sym (append_assoc before (y ∷ []) ys))
    ∙ (values_aside ys (before ++ y ∷ []) all.1 ∙ values_still before y (other_epoch y all.0) (other_unread before y all.0))

pub others_fetched : (terms : Terms) (before ys : List Line) → AreOther ys → AreFetched terms before → AreFetched terms (before ++ ys)
others_fetched terms before [] all are = subst (λ (ls : List Line). AreFetched terms ls) (sym (append-nil before)) are
others_fetched terms before (y ∷ ys) all are =
    subst (λ (ls : List Line). AreFetched terms ls) (append_assoc before (y ∷ []) ys)
    (others_fetched terms (before ++ y ∷ []) ys all.1 (still_fetched terms before y (other_epoch y all.0) (other_unread before y all.0) are))

-- what holds of a job that is fetched now
facts_of : (terms : Terms) (before : List Line) → Tale terms.config before → (request : RawRequest) → fetched_with before request ≡ record { request = request; disk = back_info terms.config; persistent = false }
facts_of terms before t request =
    ap (λ (d : DiskInfo). record { request = request; disk = d; persistent = is_persistent before }) t.told
    ∙ ap (λ (p : Bool). record { request = request; disk = back_info terms.config; persistent = p }) (not_persistent terms.config before t)

shape_abi : (abi : Option Abi) (order : Option ℕ) (shape : Shape) → shape_of abi order ≡ Some shape → abi ≡ Some shape.abi
shape_abi None order shape e = absurd (cc)
shape_abi (Some a) None shape e = absurd (cc)
shape_abi (Some a) (Some n) shape e = ap (λ (x : Abi). Some x) (ap (λ (o : Option Shape). abi_in o a) e)
  where
    abi_in : Option Shape → Abi → Abi
    abi_in None d = d
    abi_in (Some s) d = s.abi

-- the line of a read of a word of an entry
entry_fetched : (terms : Terms) (before : List Line) (line : Line) (s : Shape) (value : ℕ) → is_epoch line ≡ false → entry_value before line ≡ Some value → ring_shape before ≡ Some s → s.abi ≡ terms.abi → Tale terms.config before → AreFetched terms before → AreFetched terms (before ++ line ∷ [])
entry_fetched terms before line s value same read shape layout tale are =
    let named : ring_abi before ≡ Some terms.abi = shape_abi (ring_abi before) (ring_order before) s shape ∙ ap (λ (a : Abi). Some a) layout in
    let f : Fetching = fetching_of before in
    same_by terms (with_words f (f.words ++ value ∷ []) (option_map (fetched_with before) (entry_of (Some terms.abi) (f.words ++ value ∷ [])))) (fetching_of (before ++ line ∷ [])) (entry_values before ++ value ∷ []) (entry_values (before ++ line ∷ []))
    (fetching_then before line (Some value) same read ∙ ap (λ (a : Option Abi). with_words (fetching_of before) ((fetching_of before).words ++ value ∷ []) (option_map (fetched_with before) (entry_of a ((fetching_of before).words ++ value ∷ [])))) named)
    (values_more before line same ∙ ap (λ (o : Option ℕ). entry_values before ++ option_to_list o) read)
    (one_entry terms before (fetching_of before) (entry_values before) value (facts_of terms before tale) are)

-- a line of the back's reads words of entries from a ring of this layout, or none
pub data Reads (before : List Line) (abi : Abi) (line : Line) : Type 0 where
  shaped : (s : Shape) → ring_shape before ≡ Some s → s.abi ≡ abi → page_made line ≡ None → Reads before abi line
  blind : is_touch line ≡ false → Reads before abi line

-- a line of the back's, and those after it
own_fetched : (terms : Terms) (before : List Line) (line : Line) (read : Option ℕ) → entry_value before line ≡ read → IsBystander line → Reads before terms.abi line → Tale terms.config before → AreFetched terms before → AreFetched terms (before ++ line ∷ [])
own_fetched terms before line None read b reads tale are = still_fetched terms before line (plain_epoch line b.plain) read are
own_fetched terms before line (Some value) read b (shaped s shape same none) tale are = entry_fetched terms before line s value (plain_epoch line b.plain) read shape same tale are
own_fetched terms before line (Some value) read b (blind untouched) tale are = absurd (let none = untouched_value before line untouched in cc)

pub back_fetched : (terms : Terms) (before ys : List Line) (line : Line) → IsBystander line → AreOther ys → Reads before terms.abi line → Tale terms.config before → AreFetched terms before → AreFetched terms (before ++ line ∷ ys)
back_fetched terms before ys line b all reads tale are =
    subst (λ (ls : List Line). AreFetched terms ls) (append_assoc before (line ∷ []) ys)
    (others_fetched terms (before ++ line ∷ []) ys all (own_fetched terms before line (entry_value before line) refl b reads tale are))

-- what was fetched for a job whose entry was read
read_within : (abi : Abi) (n entries within k : ℕ) → AreCounted (Some abi) n entries within → entry_words_of abi * k ≤ n → k ≤ entries
read_within X64 n entries within k c le = let is = c.0 in let short = c.1 in omega arith
read_within X32 n entries within k c le = let is = c.0 in let short = c.1 in omega arith

pub fetched_upto : (terms : Terms) (before : List Line) (values : List ℕ) (k : ℕ) → entry_values before ≡ values → AreFetched terms before → entry_words_of terms.abi * k ≤ length values → k ≤ length (fetching_of before).jobs
fetched_upto terms before values k same are read =
    read_within terms.abi (length (entry_values before)) (length (fetching_of before).jobs) (length (fetching_of before).words) k are.counts (subst (λ (vs : List ℕ). entry_words_of terms.abi * k ≤ length vs) (sym same) read)

pub fetched_is : (terms : Terms) (before : List Line) (values : List ℕ) (k : ℕ) → entry_values before ≡ values → AreFetched terms before → 1 ≤ k → entry_words_of terms.abi * k ≤ length values → fetched_of before k ≡ Some (fetched_in terms values k)
fetched_is terms before values k same are first read = are.each k first (fetched_upto terms before values k same are read) ∙ ap (λ (vs : List ℕ). Some (fetched_in terms vs k)) same
