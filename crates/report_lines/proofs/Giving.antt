-- The next line among the bytes that are still to be read, over plain lists.
use Rattle.std.proofs.Common.{◌≡◌, ◌≢◌, ℕ, ◌+◌, ◌-◌, ◌<◌, ◌≤◌, ◌⊎◌, inl, inr, List, [], ◌∷◌, ◌++◌, length, take, drop, Option, Some, None, refl, sym, ap, subst, ◌∙◌, arith, append_assoc, append-nil, length-append, length-drop, rules}
use Rattle.std.proofs.lemmas.List.{take_at, drop_at}
use Rattle.schedule_text.specs.declared.line.Line.{Line}
use Rattle.schedule_text.specs.Range.{IsTextOf}
use Rattle.blk_io.specs.Outside.{SourceSeen}
use Rattle.report_lines.specs.Text.{HasNoLineFeed, HasBadText, first_line}
use Rattle.report_lines.specs.Filling.{Ahead, IsTaken, IsAtEnd, Fills, IsLineAhead, IsBadAhead}
use Rattle.report_lines.specs.Giving.{unread, IsNext, Tells, IsNoLine, IsRoomSpent, Spends}
use Rattle.report_lines.proofs.Feeds.{first_line_whole, first_line_long}

-- bytes that go from the source to those ahead are still to be read
pub unread_filled : (a b got : List ℕ) (s t : Option (List ℕ)) → b ≡ a ++ got → IsTaken got s t → unread b t ≡ unread a s
unread_filled a b got None t is taken = ap (unread b) taken
unread_filled a b got (Some left) t is taken =
    ap (unread b) taken.2 ∙ ap Some (ap (λ l. l ++ taken.0) is ∙ append_assoc a got taken.0 ∙ ap (λ l. a ++ l) (sym taken.1))

-- the line ahead is the next one
next_ahead : (line : Line) (n : ℕ) (b c : List ℕ) (t : Option (List ℕ)) → (ahead : IsLineAhead n b) → IsTextOf line ahead.line → c ≡ ahead.rest → IsNext line (unread b t) (unread c t)
next_ahead line n b c None ahead is rest = refl
next_ahead line n b c (Some left) ahead is rest =
    (ahead.line, ahead.rest ++ left, ap (λ l. l ++ left) ahead.all ∙ append_assoc ahead.line (10 ∷ ahead.rest) left, is, ap (λ l. Some (l ++ left)) rest)

drop_after : (line rest : List ℕ) (n : ℕ) → length line ≡ n → drop (n + 1) (line ++ (10 ∷ rest)) ≡ rest
drop_after line rest n long =
    let sizes = length-append line (10 ∷ []) in
    ap (drop (n + 1)) (sym (append_assoc line (10 ∷ []) rest)) ∙ drop_at (line ++ 10 ∷ []) rest (n + 1) (omega (arith, sizes, long))

-- it has the first n bytes, and its line feed is the next
pub ahead_is : (n : ℕ) (b : List ℕ) → (ahead : IsLineAhead n b) → (take n b ≡ ahead.line) × (drop (n + 1) b ≡ ahead.rest) × (n + 1 ≤ length b)
ahead_is n b ahead =
    let front : take n b ≡ ahead.line = ap (take n) ahead.all ∙ take_at ahead.line (10 ∷ ahead.rest) n ahead.long in
    let back : drop (n + 1) b ≡ ahead.rest = ap (drop (n + 1)) ahead.all ∙ drop_after ahead.line ahead.rest n ahead.long in
    let size : length b ≡ length (ahead.line ++ (10 ∷ ahead.rest)) = ap length ahead.all in
    let sizes = length-append ahead.line (10 ∷ ahead.rest) in
    (front, back, omega (arith, size, sizes, ahead.long))

pub room_spent : (room less : ℕ) (got : List ℕ) (s t : Option (List ℕ)) → less + length got ≡ room → IsTaken got s t → IsRoomSpent room less s t
room_spent room less got None t is taken = tt
room_spent room less got (Some bytes) t is taken = subst (IsRoomSpent room less (Some bytes)) (sym taken.2) (room_of taken.0 taken.1)
  where
    room_of : (rest : List ℕ) → bytes ≡ got ++ rest → length bytes + less ≡ room + length rest
    room_of rest all = let whole = ap length all ∙ length-append got rest in omega (arith, whole, is)

-- what is ahead and what may still be taken are fewer by its bytes
spent : (n : ℕ) (a b c : Ahead) (s t : SourceSeen) → Fills a b s t → n + 1 ≤ length b.bytes → c.bytes ≡ drop (n + 1) b.bytes → c.room ≡ b.room → Spends a c s t
spent n a b c s t f low bytes same =
    let whole : length b.bytes ≡ length a.bytes + length f.got = ap length f.ahead ∙ length-append a.bytes f.got in
    let rest : length c.bytes ≡ length b.bytes - (n + 1) = ap length bytes ∙ length-drop (n + 1) b.bytes in
    record {
      fewer = omega (arith, whole, rest, f.room, low, same);
      room = room_spent a.room c.room f.got s.left t.left (omega (arith, f.room, same)) f.taken;
    }

pub gives_next : (line : Line) (n : ℕ) (a b c : Ahead) (s t : SourceSeen) → Fills a b s t → IsLineAhead n b.bytes → IsTextOf line (take n b.bytes) → c ≡ record b { bytes = drop (n + 1) b.bytes } → IsNext line (unread a.bytes s.left) (unread c.bytes t.left) × (t.faults ≡ s.faults) × Spends a c s t
gives_next line n a b c s t f ahead is skipped =
    let parts = ahead_is n b.bytes ahead in
    let next = next_ahead line n b.bytes c.bytes t.left ahead (subst (IsTextOf line) parts.0 is) (ap (λ (x : Ahead). x.bytes) skipped ∙ parts.1) in
    (subst (λ o. IsNext line o (unread c.bytes t.left)) (unread_filled a.bytes b.bytes f.got s.left t.left f.ahead f.taken) next, f.faults, spent n a b c s t f parts.2 (ap (λ (x : Ahead). x.bytes) skipped) (ap (λ (x : Ahead). x.room) skipped))

-- nothing is left to be read
none_left : (b : List ℕ) (t : Option (List ℕ)) → b ≡ [] → IsAtEnd t → Tells (λ bytes. bytes ≡ []) (unread b t)
none_left b None none end = tt
none_left b (Some left) none end = ap (λ l. l ++ left) none ∙ end

nothing_of : (a got b : List ℕ) → b ≡ a ++ got → b ≡ [] → (a ≡ []) × (length got ≡ 0)
nothing_of [] [] b is none = (refl, refl)
nothing_of [] (x ∷ got) b is none = absurd (search (rules, sym is ∙ none))
nothing_of (x ∷ a) got b is none = absurd (search (rules, sym is ∙ none))

pub gives_end : (a b : Ahead) (s t : SourceSeen) → Fills a b s t → b.bytes ≡ [] → IsAtEnd t.left → 0 < b.room → Tells (λ bytes. bytes ≡ []) (unread a.bytes s.left) × (t.faults ≡ s.faults) × (a.bytes ≡ []) × (0 < a.room)
gives_end a b s t f none end some =
    let nothing = nothing_of a.bytes f.got b.bytes f.ahead none in
    (subst (Tells (λ bytes. bytes ≡ [])) (unread_filled a.bytes b.bytes f.got s.left t.left f.ahead f.taken) (none_left b.bytes t.left none end), f.faults, nothing.0, omega (arith, f.room, nothing.1, some))

some_more : (b left : List ℕ) → b ≢ [] → b ++ left ≢ []
some_more [] left some = absurd (some refl)
some_more (x ∷ b) left some = λ e. search rules

-- the bytes ahead are no line
bad_ahead : (b : Ahead) (t : SourceSeen) (left : Option (List ℕ)) → t.left ≡ left → IsBadAhead b t → Tells IsNoLine (unread b.bytes left)
bad_ahead b t None is bad = tt
bad_ahead b t (Some left) is bad = (some_more b.bytes left bad.some, bad_by bad.why)
  where
    bad_by : (1152 < length b.bytes) ⊎ IsAtEnd t.left → HasBadText (b.bytes ++ left)
    bad_by (inl long) = let more = first_line_long b.bytes left bad.unbroken in inr (inl (omega arith))
    bad_by (inr end) = inr (inr (subst HasNoLineFeed (sym (ap (λ l. b.bytes ++ l) (subst IsAtEnd is end) ∙ append-nil b.bytes)) bad.unbroken))

pub gives_bad : (a b : Ahead) (s t : SourceSeen) → Fills a b s t → IsBadAhead b t → Tells IsNoLine (unread a.bytes s.left) × (t.faults ≡ s.faults)
gives_bad a b s t f bad =
    (subst (Tells IsNoLine) (unread_filled a.bytes b.bytes f.got s.left t.left f.ahead f.taken) (bad_ahead b t t.left refl bad), f.faults)

-- the line ahead is the text of none
unspoken : (n : ℕ) (b : List ℕ) (t : Option (List ℕ)) → IsLineAhead n b → ((line : Line) → IsTextOf line (take n b) → ⊥) → Tells IsNoLine (unread b t)
unspoken n b None ahead none = tt
unspoken n b (Some left) ahead none =
    let all : b ++ left ≡ ahead.line ++ (10 ∷ (ahead.rest ++ left)) = ap (λ l. l ++ left) ahead.all ∙ append_assoc ahead.line (10 ∷ ahead.rest) left in
    let first : first_line (b ++ left) ≡ ahead.line = ap first_line all ∙ first_line_whole ahead.line (ahead.rest ++ left) ahead.unbroken in
    ((λ e. search rules), inl (λ line is. none line (subst (IsTextOf line) (first ∙ sym (ahead_is n b ahead).0) is)))

pub gives_unspoken : (n : ℕ) (a b : Ahead) (s t : SourceSeen) → Fills a b s t → IsLineAhead n b.bytes → ((line : Line) → IsTextOf line (take n b.bytes) → ⊥) → Tells IsNoLine (unread a.bytes s.left) × (t.faults ≡ s.faults)
gives_unspoken n a b s t f ahead none =
    (subst (Tells IsNoLine) (unread_filled a.bytes b.bytes f.got s.left t.left f.ahead f.taken) (unspoken n b.bytes t.left ahead none), f.faults)
