-- A dump of the machine is the words of the ring that the lines before it tell.
use Rattle.std.proofs.Common.{◌≡◌, ℕ, zero, suc, ◌+◌, ◌/◌, ◌%◌, ◌≤◌, List, [], ◌∷◌, ◌++◌, refl, ap, ◌∙◌, arith}
use Rattle.schedule_text.specs.declared.line.Line.{Line}
use Rattle.grant_table.specs.Table.{GrantTable}
use Rattle.xen_pages.specs.Pages.{word_of}
use Rattle.split_model.specs.World.{World}
use Rattle.split_model.specs.Happening.{Happening, happens, after, word_lines, ring_lines}
use Rattle.move_laws.specs.Tells.{Tells}
use Rattle.move_laws.specs.Dumped.{AreWished}
use Rattle.move_laws.proofs.Wished.{HasOrder, order_happens}
use Rattle.event_laws.specs.Parts.{shown_word, shown_words}

same_word : (place value : ℕ) → shown_word place value ≡ word_lines place value
same_word place zero = refl
same_word place (suc value) = refl

-- the words of the ring as the lines tell them are those that lie there
pub same_words : (before : List Line) (pages : List ℕ) (table : GrantTable) (place count : ℕ) → place + count ≤ 16384 → Tells before pages table → shown_words before place count ≡ ring_lines pages place count
same_words before pages table place zero small tells = refl
same_words before pages table place (suc count) small tells =
    let value = tells.values (2 + place / 1024) (place % 1024) (omega arith) (omega arith) in
    let here = ap (shown_word place) value ∙ same_word place (word_of pages (2 + place / 1024) (place % 1024)) in
    let rest = same_words before pages table (place + 1) count (omega arith) tells in
    ap (λ (l : List Line). l ++ shown_words before (place + 1) count) here
    ∙ ap (λ (l : List Line). word_lines place (word_of pages (2 + place / 1024) (place % 1024)) ++ l) rest

-- where no other order is agreed the ring keeps its own
pub order_after : (order : ℕ) (hs : List Happening) (w : World) → AreWished order hs → HasOrder order w → HasOrder order (after hs w)
order_after order [] w wished is = is
order_after order (h ∷ hs) w wished is = order_after order hs (happens w h) wished.1 (order_happens order w h wished.0 is)

pub wished_first : (order : ℕ) (first rest : List Happening) → AreWished order (first ++ rest) → AreWished order first
wished_first order [] rest wished = tt
wished_first order (h ∷ first) rest wished = (wished.0, wished_first order first rest wished.1)

pub wished_rest : (order : ℕ) (first rest : List Happening) → AreWished order (first ++ rest) → AreWished order rest
wished_rest order [] rest wished = wished
wished_rest order (h ∷ first) rest wished = wished_rest order first rest wished.1
