-- What a line says of the ring depends on the ring's pages alone, and stays as it was where a page more has a number that the line does not touch.
use Rattle.std.proofs.Common.{◌≡◌, ℕ, ◌+◌, ◌==◌, ◌&&◌, ◌||◌, Bool, true, false, if◌then◌else◌, List, [], ◌∷◌, ◌++◌, refl, ap, sym, ◌∙◌, append-nil}
use Rattle.std.specs.Prelude.{fold, Option, Some, None, unwrap_or}
use Rattle.std.specs.List.{list_any}
use Rattle.std.specs.Option.{option_to_list}
use Rattle.std.proofs.lemmas.List.Sums.{fold-append}
use Rattle.blk_base.specs.declared.moves.BackMover.TheVariants as back
use Rattle.blk_base.specs.declared.moves.Move.TheVariants as moves
use Rattle.schedule_text.specs.declared.line.Line.{Line}
use Rattle.schedule_text.specs.declared.line.Line.TheVariants as lines
use Rattle.report_rules.specs.declared.standing.Standing.{Standing}
use Rattle.report_rules.specs.Ring.{page_made, page_from, word_in, ring_pages, produced_shown, replied_after, produced_after}
use Rattle.report_rules.specs.Stretch.{of_entries, entry_word_read}
use Rattle.ring_check.specs.State.{is_first_on, entry_word_on, producer_on, response_on, newer}

-- the back reads or writes through that number
abbrev pub touches : ℕ → Line → Bool
touches m (lines.Move (moves.Read back.Back number frame word value)) = m == number
touches m (lines.Move (moves.Write back.Back number frame word value)) = m == number
touches m line = false

pub producer_is : (before : List Line) (line : Line) → produced_shown before line ≡ producer_on (ring_pages before) line
producer_is before (lines.Move (moves.Read back.Back number frame word value)) = refl
producer_is before line = refl

pub entry_is : (before : List Line) (line : Line) → entry_word_read before line ≡ entry_word_on (ring_pages before) line
entry_is before (lines.Move (moves.Read back.Back number frame word value)) = refl
entry_is before line = refl

or_value : (b : Bool) (value n : ℕ) → (if b then value else n) ≡ unwrap_or (if b then Some value else None) n
or_value true value n = refl
or_value false value n = refl

pub response_is : (before : List Line) (n : ℕ) (line : Line) → replied_after before n line ≡ unwrap_or (response_on (ring_pages before) line) n
response_is before n (lines.Move (moves.Write back.Back number frame word value)) = or_value (is_first_on (ring_pages before) number && (word == 2)) value n
response_is before n line = refl

pub produced_is : (before : List Line) (n : ℕ) (line : Line) → produced_after before n line ≡ unwrap_or (producer_on (ring_pages before) line) n
produced_is before n line = ap (λ (o : Option ℕ). unwrap_or o n) (producer_is before line)

first_stays : (pages : List Standing) (p : Standing) (number : ℕ) → (p.number == number) ≡ false → is_first_on (pages ++ p ∷ []) number ≡ is_first_on pages number
first_stays [] p number e = e
first_stays (q ∷ pages) p number e = refl

place_stays : (pages : List Standing) (p : Standing) (number k : ℕ) → (p.number == number) ≡ false → page_from k number (pages ++ p ∷ []) ≡ page_from k number pages
place_stays [] p number k e = rw e refl
place_stays (q ∷ pages) p number k e = ap (λ (o : Option ℕ). if q.number == number then Some k else o) (place_stays pages p number (k + 1) e)

pub producer_stays : (pages : List Standing) (p : Standing) (line : Line) → touches p.number line ≡ false → producer_on (pages ++ p ∷ []) line ≡ producer_on pages line
producer_stays pages p (lines.Move (moves.Read back.Back number frame word value)) e = ap (λ (b : Bool). if b && (word == 0) then Some value else None) (first_stays pages p number e)
producer_stays pages p line e = refl

pub response_stays : (pages : List Standing) (p : Standing) (line : Line) → touches p.number line ≡ false → response_on (pages ++ p ∷ []) line ≡ response_on pages line
response_stays pages p (lines.Move (moves.Write back.Back number frame word value)) e = ap (λ (b : Bool). if b && (word == 2) then Some value else None) (first_stays pages p number e)
response_stays pages p line e = refl

pub entry_stays : (pages : List Standing) (p : Standing) (line : Line) → touches p.number line ≡ false → entry_word_on (pages ++ p ∷ []) line ≡ entry_word_on pages line
entry_stays pages p (lines.Move (moves.Read back.Back number frame word value)) e = ap (λ (o : Option ℕ). of_entries (word_in o word)) (place_stays pages p number 0 e)
entry_stays pages p line e = refl

-- a line that makes a page touches none
pub alone : (f : List Standing → Line → Option ℕ) → ((pages : List Standing) (p : Standing) (line : Line) → touches p.number line ≡ false → f (pages ++ p ∷ []) line ≡ f pages line)
    → (pages : List Standing) (line : Line) → f (pages ++ option_to_list (page_made line)) line ≡ f pages line
alone f stays pages (lines.Move (moves.Map back.Back gref mode number frame)) = stays pages (record { number = number; gref = gref; mode = mode; frame = frame }) (lines.Move (moves.Map back.Back gref mode number frame)) refl
alone f stays pages line = ap (λ (ps : List Standing). f ps line) (append-nil pages)

-- none of these lines touches that page, if there is one
abbrev pub IsNew : Option Standing → List Line → Type 0
IsNew None xs = Unit {0}
IsNew (Some p) xs = list_any (touches p.number) xs ≡ false

-- the newest of what these lines tell
abbrev pub newest : (Line → Option ℕ) → List Line → Option ℕ
newest f xs = fold (λ (o : Option ℕ) (x : Line). newer (f x) o) None xs

both_no : (a b : Bool) → (a || b) ≡ false → (a ≡ false) × (b ≡ false)
both_no true b e = absurd (cc)
both_no false b e = (refl, e)

newest_same : (f g : Line → Option ℕ) (m : ℕ) → ((x : Line) → touches m x ≡ false → f x ≡ g x) → (xs : List Line) (o : Option ℕ) → list_any (touches m) xs ≡ false
    → fold (λ (o : Option ℕ) (x : Line). newer (f x) o) o xs ≡ fold (λ (o : Option ℕ) (x : Line). newer (g x) o) o xs
newest_same f g m same [] o none = refl
newest_same f g m same (x ∷ xs) o none =
    let no = both_no (touches m x) (list_any (touches m) xs) none in
    ap (λ (told : Option ℕ). fold (λ (o : Option ℕ) (x : Line). newer (f x) o) (newer told o) xs) (same x no.0) ∙ newest_same f g m same xs (newer (g x) o) no.1

newest_kept : (f : List Standing → Line → Option ℕ) → ((pages : List Standing) (p : Standing) (line : Line) → touches p.number line ≡ false → f (pages ++ p ∷ []) line ≡ f pages line)
    → (pages : List Standing) (made : Option Standing) (xs : List Line) → IsNew made xs → newest (f (pages ++ option_to_list made)) xs ≡ newest (f pages) xs
newest_kept f stays pages None xs new = ap (λ (ps : List Standing). newest (f ps) xs) (append-nil pages)
newest_kept f stays pages (Some p) xs new = newest_same (f (pages ++ p ∷ [])) (f pages) p.number (stays pages p) xs None new

-- one line more tells the newest
pub newest_more : (f : List Standing → Line → Option ℕ) → ((pages : List Standing) (p : Standing) (line : Line) → touches p.number line ≡ false → f (pages ++ p ∷ []) line ≡ f pages line)
    → (pages : List Standing) (xs : List Line) (line : Line) → IsNew (page_made line) xs
    → newest (f (pages ++ option_to_list (page_made line))) (xs ++ line ∷ []) ≡ newer (f pages line) (newest (f pages) xs)
newest_more f stays pages xs line new =
    let more = pages ++ option_to_list (page_made line) in
    fold-append (λ (o : Option ℕ) (x : Line). newer (f more x) o) None xs (line ∷ [])
    ∙ (ap (λ (told : Option ℕ). newer told (newest (f more) xs)) (alone f stays pages line)
    ∙ ap (λ (known : Option ℕ). newer (f pages line) known) (newest_kept f stays pages (page_made line) xs new))

newer_or : (told known : Option ℕ) (n r : ℕ) → unwrap_or known r ≡ n → unwrap_or (newer told known) r ≡ unwrap_or told n
newer_or None known n r e = e
newer_or (Some value) known n r e = refl

-- a number that lines give one after another is the newest that they tell, or the first
pub newest_is : (step : ℕ → Line → ℕ) (f : Line → Option ℕ) → ((n : ℕ) (x : Line) → step n x ≡ unwrap_or (f x) n) → (xs : List Line) (n r : ℕ) (known : Option ℕ) → unwrap_or known r ≡ n
    → fold step n xs ≡ unwrap_or (fold (λ (o : Option ℕ) (x : Line). newer (f x) o) known xs) r
newest_is step f tells [] n r known e = sym e
newest_is step f tells (x ∷ xs) n r known e = newest_is step f tells xs (step n x) r (newer (f x) known) (newer_or (f x) known n r e ∙ sym (tells n x))
