-- The laws of records, each over any widths: what is written is read back, and what is read is written back.
use Rattle.std.specs.Prelude.{ℕ, suc, ◌+◌, ◌^◌, ◌≤◌, ◌<◌, ◌≡◌, refl, Bool, true, false, cond, List, [], ◌∷◌, ◌++◌, length, get_or, take, drop, T, leb, ltb, eqb}
use Rattle.std.proofs.Common.{arith, sym, ap, ap₂, ◌∙◌, subst, append_assoc, length-append, length-drop, take-append-drop, drop_at, drop-drop, leb→le, eqb→eq}
use Rattle.std.proofs.Math.Pow.{are_bytes}
use Rattle.std.proofs.Math.Facts.{yes_and}
use Rattle.wire.specs.Numbers.{bytes_of, number_at}
use Rattle.wire.specs.NumbersLaws.{length_bytes, number_bytes, bytes_number, number_small, number_drop, number_take, bytes_of_lem, bytes_append, bytes_drop}
use Rattle.snapshot.specs.Records.{Form, Forms, forms, only, two, route_form, four_byte_route_form, four_byte, route_form_by, route_forms, form_of, stands, known, sum, size, spread, fields, Fits, written, written_in, values_at, kind, values, form_in, size_in, values_in}

-- a number at the front of what is left
number_at_lem : (w : ℕ) (bs : List ℕ) (k : ℕ) → number_at w bs (0 + k) ≡ number_at w (drop k bs) 0
number_at_lem w bs k = ap (number_at w bs) (let e : 0 + k ≡ k + 0 = omega arith in e) ∙ sym (number_drop w k bs 0)

-- ---- places

pub fields_drop : (ws bs : List ℕ) (at k : ℕ) → fields ws (drop at bs) 0 k ≡ fields ws bs at k
fields_drop [] bs at k = refl
fields_drop (w ∷ ws) bs at k =
    ap₂ {C = List ℕ} ◌∷◌
    (number_drop w at bs (0 + k) ∙ ap (λ (i : ℕ). number_at w bs (at + i)) (let e : 0 + k ≡ k = omega arith in e))
    (fields_drop ws bs at (k + w))

-- the values at a place are those of what is left from there on
pub values_at_lem : (f : Form) (bs : List ℕ) (at : ℕ) → values f (drop at bs) ≡ values_at f bs at
values_at_lem f bs at = fields_drop f.widths bs at 1

pub fields_take : (ws : List ℕ) (m : ℕ) (bs : List ℕ) (k : ℕ) → k + sum ws ≤ m → fields ws (take m bs) 0 k ≡ fields ws bs 0 k
fields_take [] m bs k h = refl
fields_take (w ∷ ws) m bs k h = ap₂ {C = List ℕ} ◌∷◌ (number_take w m bs (0 + k) (omega arith)) (fields_take ws m bs (k + w) (omega arith))

-- ---- written, then read

pub length_spread : (ws vs : List ℕ) → Fits ws vs → length (spread ws vs) ≡ sum ws
length_spread [] [] h = refl
length_spread [] (v ∷ vs) h = absurd h
length_spread (w ∷ ws) [] h = absurd h
length_spread (w ∷ ws) (v ∷ vs) h =
    length-append (bytes_of w v) (spread ws vs) ∙ ap₂ ◌+◌ (length_bytes w v) (length_spread ws vs h.1)

fields_spread : (ws vs front rest : List ℕ) (k : ℕ) → length front ≡ k → Fits ws vs → fields ws (front ++ (spread ws vs ++ rest)) 0 k ≡ vs
fields_spread [] [] front rest k l h = refl
fields_spread [] (v ∷ vs) front rest k l h = absurd h
fields_spread (w ∷ ws) [] front rest k l h = absurd h
fields_spread (w ∷ ws) (v ∷ vs) front rest k l h =
    let more : List ℕ = spread ws vs ++ rest in
    let e : front ++ ((bytes_of w v ++ spread ws vs) ++ rest) ≡ front ++ (bytes_of w v ++ more) =
    ap (λ (l : List ℕ). front ++ l) (append_assoc (bytes_of w v) (spread ws vs) rest) in
    let l' : length (front ++ bytes_of w v) ≡ k + w = length-append front (bytes_of w v) ∙ ap₂ ◌+◌ l (length_bytes w v) in
    ap (λ (bs : List ℕ). fields (w ∷ ws) bs 0 k) e
    ∙ ap₂ {C = List ℕ} ◌∷◌
    (number_at_lem w (front ++ (bytes_of w v ++ more)) k
    ∙ ap (λ (bs : List ℕ). number_at w bs 0) (drop_at front (bytes_of w v ++ more) k l) ∙ number_bytes w v more h.0)
    (ap (λ (bs : List ℕ). fields ws bs 0 (k + w)) (sym (append_assoc front (bytes_of w v) more))
    ∙ fields_spread ws vs (front ++ bytes_of w v) rest (k + w) l' h.1)

module _ (f : Form) (vs rest : List ℕ) (h : Fits f.widths vs) where
  pub drop_written : drop (size f) (written f vs ++ rest) ≡ rest
  drop_written = drop_at (written f vs) rest (size f) (ap suc (length_spread f.widths vs h))

  pub values_written : values f (written f vs ++ rest) ≡ vs
  values_written = fields_spread f.widths vs (f.kind ∷ []) rest 1 refl h

  pub length_written : length (written f vs ++ rest) ≡ size f + length rest
  length_written =
      let l : length (spread f.widths vs) ≡ sum f.widths = length_spread f.widths vs h in
      simp (length-append, l) (omega arith)

-- ---- read, then written

spread_fields : (ws bs : List ℕ) (k : ℕ) → T (are_bytes bs) → k + sum ws ≤ length bs → spread ws (fields ws bs 0 k) ++ drop (k + sum ws) bs ≡ drop k bs
spread_fields [] bs k t h = ap (λ (i : ℕ). drop i bs) (let e : k + 0 ≡ k = omega arith in e)
spread_fields (w ∷ ws) bs k t h =
    let lw : w ≤ length (drop k bs) = simp length-drop (omega arith) in
    let v : ℕ = number_at w bs (0 + k) in
    let here : bytes_of w v ≡ take w (drop k bs) = ap (bytes_of w) (number_at_lem w bs k) ∙ bytes_number w (drop k bs) lw (bytes_drop k bs t) in
    let later : spread ws (fields ws bs 0 (k + w)) ++ drop (k + (w + sum ws)) bs ≡ drop w (drop k bs) =
    ap (λ (i : ℕ). spread ws (fields ws bs 0 (k + w)) ++ drop i bs) (let e : k + (w + sum ws) ≡ k + w + sum ws = omega arith in e)
    ∙ spread_fields ws bs (k + w) t (omega arith) ∙ sym (drop-drop w k bs) in
    append_assoc (bytes_of w v) (spread ws (fields ws bs 0 (k + w))) (drop (k + (w + sum ws)) bs)
    ∙ ap₂ {C = List ℕ} ◌++◌ here later
    ∙ take-append-drop w (drop k bs)

fits_fields : (ws bs : List ℕ) (k : ℕ) → T (are_bytes bs) → k + sum ws ≤ length bs → Fits ws (fields ws bs 0 k)
fits_fields [] bs k t h = tt
fits_fields (w ∷ ws) bs k t h =
    let small : number_at w (drop k bs) 0 < 256 ^ w = number_small w (drop k bs) (simp length-drop (omega arith)) (bytes_drop k bs t) in
    (rw (number_at_lem w bs k) small, fits_fields ws bs (k + w) t (omega arith))

module _ (f : Form) (bs : List ℕ) (t : T (are_bytes bs)) (l : T (leb (size f) (length bs))) where
  enough : 1 + sum f.widths ≤ length bs
  enough = let e : suc (sum f.widths) ≤ length bs = leb→le (size f) (length bs) l in omega arith

  pub fits_values : Fits f.widths (values f bs)
  fits_values = fits_fields f.widths bs 1 t enough

  values_spread : spread f.widths (values f bs) ++ drop (size f) bs ≡ drop 1 bs
  values_spread =
      ap (λ (i : ℕ). spread f.widths (values f bs) ++ drop i bs) (let e : suc (sum f.widths) ≡ 1 + sum f.widths = omega arith in e)
      ∙ spread_fields f.widths bs 1 t enough

-- what stands at the front of the bytes is the record with their values
pub split_written : (f : Form) (bs : List ℕ) → T (are_bytes bs) → T (eqb (kind bs) f.kind) → T (leb (size f) (length bs))
    → bs ≡ written f (values f bs) ++ drop (size f) bs
split_written f [] t k l = absurd (let z : suc (sum f.widths) ≤ 0 = leb→le (size f) 0 l in omega arith)
split_written f (b ∷ bs) t k l = ap₂ {C = List ℕ} ◌∷◌ (eqb→eq b f.kind k) (sym (values_spread f (b ∷ bs) t l))

-- ---- records of several forms

-- the form that values choose is found by its kind, and is in the table of kinds
pub record Chosen (table : List Form) (fs : Forms) : Type 0 where
  pub found : (vs : List ℕ) → form_of fs (fs.chosen vs).kind ≡ fs.chosen vs
  pub listed : (vs : List ℕ) → T (known table (fs.chosen vs).kind)

pub only_chosen : (table : List Form) (f : Form) → T (known table f.kind) → Chosen table (only f)
only_chosen table f k = record { found = λ vs. refl; listed = λ vs. k }

-- what holds of both forms
of_both : (usual other : Form) (P : Form → Type 0) → P usual → P other → (b : Bool) → P (cond b other usual)
of_both usual other P u o true = o
of_both usual other P u o false = u

pub two_chosen : (table : List Form) (usual other : Form) (test : List ℕ → Bool)
    → eqb other.kind other.kind ≡ true → eqb usual.kind other.kind ≡ false → T (known table usual.kind) → T (known table other.kind)
    → Chosen table (two usual other test)
two_chosen table usual other test same apart u o = record {
  found = λ vs. of_both usual other (λ f. cond (eqb f.kind other.kind) other usual ≡ f)
      (ap (λ (b : Bool). cond b other usual) apart) (ap (λ (b : Bool). cond b other usual) same) (test vs);
  listed = λ vs. of_both usual other (λ f. T (known table f.kind)) u o (test vs);
}

-- and of both forms of a route
pub of_routes : (P : Form → Type 0) → P route_form → P four_byte_route_form → (four : Bool) → P (route_form_by four)
of_routes P u o four = of_both route_form four_byte_route_form P u o four

pub routes_chosen : Chosen forms route_forms
routes_chosen = two_chosen forms route_form four_byte_route_form (λ vs. four_byte (get_or vs 1 0)) refl refl tt tt

-- a record of a form that its values choose has that form
module _ (table : List Form) (fs : Forms) (c : Chosen table fs) (bs : List ℕ) (due : T (stands fs (kind bs))) (its : T (eqb (form_in fs bs).kind (fs.chosen (values_in fs bs)).kind)) where
  pub form_chosen : form_in fs bs ≡ fs.chosen (values_in fs bs)
  form_chosen = ap (form_of fs) (eqb→eq (kind bs) (form_in fs bs).kind due ∙ eqb→eq (form_in fs bs).kind (fs.chosen (values_in fs bs)).kind its) ∙ c.found (values_in fs bs)

  module _ (t : T (are_bytes bs)) (l : T (leb (size_in fs bs) (length bs))) where
    pub split_in : bs ≡ written_in fs (values_in fs bs) ++ drop (size_in fs bs) bs
    split_in = split_written (form_in fs bs) bs t due l ∙ ap (λ (f : Form). written f (values_in fs bs) ++ drop (size_in fs bs) bs) form_chosen

    pub fits_in : Fits (fs.chosen (values_in fs bs)).widths (values_in fs bs)
    fits_in = subst (λ (f : Form). Fits f.widths (values_in fs bs)) form_chosen (fits_values (form_in fs bs) bs t l)

-- ---- bytes

bytes_spread : (ws vs : List ℕ) → T (are_bytes (spread ws vs))
bytes_spread [] vs = tt
bytes_spread (w ∷ ws) [] = tt
bytes_spread (w ∷ ws) (v ∷ vs) = bytes_append (bytes_of w v) (spread ws vs) (bytes_of_lem w v) (bytes_spread ws vs)

pub bytes_written : (f : Form) (vs rest : List ℕ) → T (ltb f.kind 256) → T (are_bytes rest) → T (are_bytes (written f vs ++ rest))
bytes_written f vs rest k h =
    yes_and (ltb f.kind 256) (are_bytes (spread f.widths vs ++ rest)) k (bytes_append (spread f.widths vs) rest (bytes_spread f.widths vs) h)
