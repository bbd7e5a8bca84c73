-- Activities one after another, and asks one after another.
use Rattle.std.proofs.Common.{◌≡◌, ℕ, ◌+◌, List, [], ◌∷◌, ◌++◌, length, refl, sym, ap, ◌∙◌, subst, arith}
use Rattle.std.specs.Prelude.{Option, Some, None}
use Rattle.std.specs.List.{AllByRecursion}
use Rattle.std.proofs.lemmas.List.{append-nil, append_assoc}
use Rattle.blk_base.specs.declared.parts.Mapping.{Mapping}
use Rattle.ring_words.specs.Shape.{Shape}
use Rattle.blk_base.specs.declared.halt.Halt.{Halt}
use Rattle.blk_base.specs.declared.halt.Halt.TheVariants as halt
use Rattle.back_laws.specs.Activity.{Asked, Reach, Activity, entry_from, read, slot_page, slot_word, asks_of, reached, all_asks, all_reached, IsRight, AreRight, IsOverrun}
use Rattle.back_laws.specs.Life.{IsClosing, mapped_by, mapped_in, bound, first_reach, reach_of, served, IsServed, Overran, asked_before, HasHalted}

pub all_push : (P : Asked → Type 0) (xs : List Asked) (x : Asked) → AllByRecursion P xs → P x → AllByRecursion P (xs ++ x ∷ [])
all_push P [] x all here = (here, tt)
all_push P (y ∷ xs) x all here = (all.0, all_push P xs x all.1 here)

all_asks_more : (r : Reach) (activities : List Activity) (d : Activity) → all_asks r (activities ++ d ∷ []) ≡ all_asks r activities ++ asks_of (all_reached r activities) d
all_asks_more r [] d = append-nil (asks_of r d)
all_asks_more r (x ∷ activities) d =
    ap (λ (l : List Asked). asks_of r x ++ l) (all_asks_more (reached r x) activities d)
    ∙ sym (append_assoc (asks_of r x) (all_asks (reached r x) activities) (asks_of (all_reached (reached r x) activities) d))

all_reached_more : (r : Reach) (activities : List Activity) (d : Activity) → all_reached r (activities ++ d ∷ []) ≡ reached (all_reached r activities) d
all_reached_more r [] d = refl
all_reached_more r (x ∷ activities) d = all_reached_more (reached r x) activities d

right_more : (r : Reach) (activities : List Activity) (d : Activity) → AreRight r activities → IsRight (all_reached r activities) d → AreRight r (activities ++ d ∷ [])
right_more r [] d all right = (right, tt)
right_more r (x ∷ activities) d all right = (all.0, right_more (reached r x) activities d all.1 right)

-- one word more of an entry
pub entry_more : (r : Reach) (i : ℕ) (words : List ℕ) (word : ℕ) → entry_from r i (words ++ word ∷ []) ≡ entry_from r i words ++ read (slot_page r r.cons (i + length words)) (slot_word r r.cons (i + length words)) word ∷ []
entry_more r i [] word = let same : i + 0 ≡ i = omega arith in rw same refl
entry_more r i (w ∷ words) word =
    let same : i + 1 + length words ≡ i + length (w ∷ words) = omega arith in
    ap (λ (l : List Asked). read (slot_page r r.cons i) (slot_word r r.cons i) w ∷ l)
    (entry_more r (i + 1) words word ∙ ap (λ (n : ℕ). entry_from r (i + 1) words ++ read (slot_page r r.cons n) (slot_word r r.cons n) word ∷ []) same)

pub mapped_more : (asked : List Asked) (x : Asked) → mapped_in (asked ++ x ∷ []) ≡ mapped_in asked ++ mapped_by x.answer
mapped_more [] x = append-nil (mapped_by x.answer)
mapped_more (a ∷ asked) x = ap (λ (l : List Mapping). mapped_by a.answer ++ l) (mapped_more asked x) ∙ sym (append_assoc (mapped_by a.answer) (mapped_in asked) (mapped_by x.answer))

-- A back whose port is bound: what it asked is some activities, which lead to a place, and the first asks of one more. Something is kept of the activities.
pub record IsAt (start : ℕ) (own : List Asked) (shape : Shape) (pages : List Mapping) (halted : Option Halt) (r : Reach) (part : List Asked) (Kept : List Activity → Type 0) : Type 0 where
  pub opening : List Asked
  pub port : ℕ
  pub activities : List Activity
  pub is : IsServed start shape opening activities
  pub mapped : pages ≡ mapped_in opening
  pub reach : reach_of start shape opening activities ≡ r
  pub asked : own ≡ served start shape opening port activities ++ part
  pub none : halted ≡ None
  pub kept : Kept activities

-- one ask more of the activity
pub more : (start : ℕ) (own : List Asked) (shape : Shape) (pages : List Mapping) (halted : Option Halt) (r : Reach) (part : List Asked) (Kept : List Activity → Type 0) (x : Asked)
    → IsAt start own shape pages halted r part Kept → IsAt start (own ++ x ∷ []) shape pages halted r (part ++ x ∷ []) Kept
more start own shape pages halted r part Kept x a = record {
  opening = a.opening;
  port = a.port;
  activities = a.activities;
  is = a.is;
  mapped = a.mapped;
  reach = a.reach;
  asked = ap (λ (l : List Asked). l ++ x ∷ []) a.asked ∙ append_assoc (served start shape a.opening a.port a.activities) part (x ∷ []);
  none = a.none;
  kept = a.kept;
}

-- something else is kept
pub keeps : (start : ℕ) (own : List Asked) (shape : Shape) (pages : List Mapping) (halted : Option Halt) (r : Reach) (part : List Asked) (Kept Now : List Activity → Type 0)
    → ((activities : List Activity) → Kept activities → Now activities) → IsAt start own shape pages halted r part Kept → IsAt start own shape pages halted r part Now
keeps start own shape pages halted r part Kept Now f a = record { opening = a.opening; port = a.port; activities = a.activities; is = a.is; mapped = a.mapped; reach = a.reach; asked = a.asked; none = a.none; kept = f a.activities a.kept }

served_more : (start : ℕ) (shape : Shape) (opening : List Asked) (port : ℕ) (activities : List Activity) (d : Activity)
    → served start shape opening port (activities ++ d ∷ []) ≡ served start shape opening port activities ++ asks_of (reach_of start shape opening activities) d
served_more start shape opening port activities d =
    let first : Reach = first_reach start shape opening in
    ap (λ (l : List Asked). opening ++ bound port ∷ l) (all_asks_more first activities d)
    ∙ sym (append_assoc opening (bound port ∷ all_asks first activities) (asks_of (all_reached first activities) d))

-- the activity is done
pub done : (start : ℕ) (own : List Asked) (shape : Shape) (pages : List Mapping) (halted : Option Halt) (r : Reach) (part : List Asked) (Kept Now : List Activity → Type 0) (d : Activity)
    → ((activities : List Activity) → Kept activities → Now (activities ++ d ∷ [])) → IsRight r d → asks_of r d ≡ part → IsAt start own shape pages halted r part Kept → IsAt start own shape pages halted (reached r d) [] Now
done start own shape pages halted r part Kept Now d f right same a =
    let first : Reach = first_reach start shape a.opening in
    let all : List Asked = served start shape a.opening a.port a.activities in
    record {
      opening = a.opening;
      port = a.port;
      activities = a.activities ++ d ∷ [];
      is = record { opens = a.is.opens; whole = a.is.whole; right = right_more first a.activities d a.is.right (subst (λ (x : Reach). IsRight x d) (sym a.reach) right) };
      mapped = a.mapped;
      reach = all_reached_more first a.activities d ∙ ap (λ (x : Reach). reached x d) a.reach;
      asked = a.asked ∙ (ap (λ (l : List Asked). all ++ l) (sym (ap (λ (x : Reach). asks_of x d) a.reach ∙ same)) ∙ (sym (served_more start shape a.opening a.port a.activities d) ∙ sym (append-nil (served start shape a.opening a.port (a.activities ++ d ∷ [])))));
      none = a.none;
      kept = f a.activities a.kept;
    }

-- the producer that it read overran the ring
pub overran : (start : ℕ) (own : List Asked) (shape : Shape) (pages : List Mapping) (halted : Option Halt) (r : Reach) (part : List Asked) (Kept : List Activity → Type 0) (calls : List Halt) (d : Activity) (shown : ℕ)
    → IsOverrun r d shown → asks_of r d ≡ part → IsAt start own shape pages halted r part Kept → HasHalted start shape own calls (Some (halt.Overrun shown r.prod))
overran start own shape pages halted r part Kept calls d shown over same a =
    let all : List Asked = served start shape a.opening a.port a.activities in
    let part_is : asks_of (reach_of start shape a.opening a.activities) d ≡ part = ap (λ (x : Reach). asks_of x d) a.reach ∙ same in
    record {
      cause = Overran a.opening a.port a.activities d shown;
      closing = [];
      is = (a.is, subst (λ (x : Reach). IsOverrun x d shown) (sym a.reach) over);
      closes = tt;
      asked = a.asked ∙ (ap (λ (l : List Asked). all ++ l) (sym part_is) ∙ sym (append-nil (all ++ asks_of (reach_of start shape a.opening a.activities) d)));
      why = ap (λ (x : Reach). Some (halt.Overrun shown x.prod)) (sym a.reach);
    }

-- it closes
pub closing_more : (start : ℕ) (shape : Shape) (own : List Asked) (calls : List Halt) (halted : Option Halt) (x : Asked) → IsClosing x → HasHalted start shape own calls halted → HasHalted start shape (own ++ x ∷ []) calls halted
closing_more start shape own calls halted x closing h = record {
  cause = h.cause;
  closing = h.closing ++ x ∷ [];
  is = h.is;
  closes = all_push IsClosing h.closing x h.closes closing;
  asked = ap (λ (l : List Asked). l ++ x ∷ []) h.asked ∙ append_assoc (asked_before start shape h.cause) h.closing (x ∷ []);
  why = h.why;
}
