-- Laws by which putting bytes part by part is proved.
use Rattle.std.specs.Prelude.{ℕ, suc, ◌+◌, ◌≤◌, ◌≡◌, refl, Bool, true, false, cond, List, [], ◌∷◌, ◌++◌, length, set}
use Rattle.std.proofs.Common.{arith, sym, ap, ◌∙◌, subst, length-append}
use Rattle.std.proofs.lemmas.List.Edits.{sets}
use Rattle.std.proofs.Math.Seq.{length-sets}
use Rattle.wire.specs.Numbers.{bytes_of}
use Rattle.wire.specs.NumbersLaws.{length_bytes}
use Rattle.model.specs.Decision.{Route}
use Rattle.snapshot.specs.Records.{Form, four_byte, route_form_by, route_forms, size, spread, written, written_in}
use Rattle.snapshot.proofs.RecordsLaws.{of_routes}
use Rattle.snapshot.specs.Format.{route_fields}
use Rattle.records.specs.Putting.{front_form, front_bytes, rest_bytes, Space, Puts}

pub sets_append : (d : List ℕ) (at : ℕ) (xs ys : List ℕ) → sets d at (xs ++ ys) ≡ sets (sets d at xs) (at + length xs) ys
sets_append d at [] ys = ap (λ (k : ℕ). sets d k ys) (let e : at ≡ at + 0 = omega arith in e)
sets_append d at (x ∷ xs) ys =
    sets_append (set d at x) (suc at) xs ys
    ∙ ap (λ (k : ℕ). sets (sets (set d at x) (suc at) xs) k ys) (let e : suc at + length xs ≡ at + suc (length xs) = omega arith in e)

-- ---- a record, field by field

-- fields from k bytes behind a place on
abbrev put_fields : List ℕ → List ℕ → List ℕ → ℕ → ℕ → List ℕ
put_fields [] vs d at k = d
put_fields (w ∷ ws) [] d at k = d
put_fields (w ∷ ws) (v ∷ vs) d at k = put_fields ws vs (sets d (at + k) (bytes_of w v)) at (k + w)

fields_put : (ws vs d : List ℕ) (at k : ℕ) → put_fields ws vs d at k ≡ sets d (at + k) (spread ws vs)
fields_put [] vs d at k = refl
fields_put (w ∷ ws) [] d at k = refl
fields_put (w ∷ ws) (v ∷ vs) d at k =
    let long = length_bytes w v in
    fields_put ws vs (sets d (at + k) (bytes_of w v)) at (k + w)
    ∙ ap (λ (i : ℕ). sets (sets d (at + k) (bytes_of w v)) i (spread ws vs)) (let e : at + (k + w) ≡ at + k + length (bytes_of w v) = omega arith in e)
    ∙ sym (sets_append d (at + k) (bytes_of w v) (spread ws vs))

-- one field more
pub then_put : (at w v : ℕ) {before mid after : List ℕ} → mid ≡ before → after ≡ sets mid at (bytes_of w v) → after ≡ sets before at (bytes_of w v)
then_put at w v e f = f ∙ ap (λ (d : List ℕ). sets d at (bytes_of w v)) e

-- a field, and the fields behind it
pub first_put : (w v : ℕ) (ws vs d : List ℕ) (at : ℕ) → put_fields ws vs (sets d at (bytes_of w v)) at w ≡ sets d at (spread (w ∷ ws) (v ∷ vs))
first_put w v ws vs d at =
    let long = length_bytes w v in
    fields_put ws vs (sets d at (bytes_of w v)) at w
    ∙ ap (λ (i : ℕ). sets (sets d at (bytes_of w v)) i (spread ws vs)) (let e : at + w ≡ at + length (bytes_of w v) = omega arith in e)
    ∙ sym (sets_append d at (bytes_of w v) (spread ws vs))

-- a kind byte, and the fields behind it
pub record_put : (f : Form) (vs d : List ℕ) (at : ℕ) → bytes_of 1 f.kind ≡ f.kind ∷ [] → put_fields f.widths vs (sets d at (bytes_of 1 f.kind)) at 1 ≡ sets d at (written f vs)
record_put f vs d at e = first_put 1 f.kind f.widths vs d at ∙ ap (λ (bs : List ℕ). sets d at (bs ++ spread f.widths vs)) e

-- ---- a run of parts

-- these bytes are left to put at a place, so that in the end there is `goal`, and the place is `end`
pub record Left (goal : List ℕ) (end : ℕ) (out : List ℕ) (at : ℕ) (bytes : List ℕ) : Type 0 where
  pub same : sets out at bytes ≡ goal
  pub place : at + length bytes ≡ end
  pub room : end ≤ length out

module _ {out : List ℕ} {at : ℕ} where
  pub left : {bytes : List ℕ} → Space bytes out at → Left (sets out at bytes) (at + length bytes) out at bytes
  left space = record { same = refl; place = refl; room = space.fits }

module _ {goal : List ℕ} {end : ℕ} {out : List ℕ} {at : ℕ} where
  -- the first of them are put
  pub left_next : {after : List ℕ} {next : ℕ} (xs ys : List ℕ) → Left goal end out at (xs ++ ys) → after ≡ sets out at xs → next ≡ at + length xs → Left goal end after next ys
  left_next {after} {next} xs ys l e n =
      let long : length after ≡ length out = ap length e ∙ length-sets out at xs in
      let all = length-append xs ys in
      let place = l.place in
      let room = l.room in
      record {
        same = ap (λ (d : List ℕ). sets d next ys) e ∙ ap (λ (k : ℕ). sets (sets out at xs) k ys) n ∙ sym (sets_append out at xs ys) ∙ l.same;
        place = omega arith;
        room = omega arith;
      }

  -- there is room for the first of them
  pub left_room : (xs ys : List ℕ) → Left goal end out at (xs ++ ys) → Space xs out at
  left_room xs ys l =
      let all = length-append xs ys in
      let place = l.place in
      let room = l.room in
      record { fits = omega arith }

  -- the same bytes, said otherwise
  pub left_as : {xs ys : List ℕ} → xs ≡ ys → Left goal end out at xs → Left goal end out at ys
  left_as e l = subst (Left goal end out at) e l

  pub left_done : Left goal end out at [] → out ≡ goal
  left_done l = l.same

  pub left_end : Left goal end out at [] → at ≡ end
  left_end l = let e = l.place in omega arith

-- ---- one part after the other

module _ {xs ys before mid after : List ℕ} {at m next : ℕ} where
  pub puts_append : Puts xs before at mid m → Puts ys mid m after next → Puts (xs ++ ys) before at after next
  puts_append p q =
      let all = length-append xs ys in
      let one = p.place in
      let two = q.place in
      record {
        same = q.same ∙ ap (λ (d : List ℕ). sets d m ys) p.same ∙ ap (λ (k : ℕ). sets (sets before at xs) k ys) one ∙ sym (sets_append before at xs ys);
        place = omega arith;
      }

-- where there is room for both, there is room for the first, and behind it for the second
module _ {before : List ℕ} {at : ℕ} (xs ys : List ℕ) (space : Space (xs ++ ys) before at) where
  pub space_first : Space xs before at
  space_first = let all = length-append xs ys in let l = space.fits in record { fits = omega arith }

  pub space_then : {mid : List ℕ} {m : ℕ} → Puts xs before at mid m → Space ys mid m
  space_then {mid} p =
      let all = length-append xs ys in
      let place = p.place in
      let l = space.fits in
      let long : length mid ≡ length before = ap length p.same ∙ length-sets before at xs in
      record { fits = omega arith }

-- ---- the parts of a route

parts_by : (four : Bool) (r : Route) → written (route_form_by four) (route_fields r) ≡ written (front_form four) (r.router ∷ r.asn ∷ []) ++ rest_bytes r
parts_by true r = refl
parts_by false r = refl

module _ (r : Route) where
  front_long : (four : Bool) → four ≡ four_byte r.asn → length (front_bytes r) ≡ size (front_form four)
  front_long four e = ap (λ (b : Bool). length (written (front_form b) (r.router ∷ r.asn ∷ []))) (sym e) ∙ by_form four
    where
      by_form : (four : Bool) → length (written (front_form four) (r.router ∷ r.asn ∷ [])) ≡ size (front_form four)
      by_form true = refl
      by_form false = refl

module _ (r : Route) {d : List ℕ} {at : ℕ} where
  -- behind the front the rest is put
  pub route_put : {mid after : List ℕ} {m : ℕ} → Puts (front_bytes r) d at mid m → after ≡ sets mid m (rest_bytes r) → Puts (written_in route_forms (route_fields r)) d at after (m + 20)
  route_put {after} {m} p e =
      subst (λ (bs : List ℕ). Puts bs d at after (m + 20)) (sym (parts_by (four_byte r.asn) r)) (puts_append {xs = front_bytes r} p (record { same = e; place = refl }))

  -- kind, router and AS, one after the other
  pub front_put : (four : Bool) {kind next : ℕ} {one two three : List ℕ} → four ≡ four_byte r.asn → kind ≡ (route_form_by four).kind → one ≡ sets d at (bytes_of 1 kind)
      → two ≡ sets one (at + 1) (bytes_of 1 r.router) → three ≡ sets two (at + 2) (bytes_of (cond four 4 2) r.asn) → next ≡ at + size (front_form four)
      → Puts (front_bytes r) d at three next
  front_put four e k f g h n =
      let long = front_long r four e in
      let one_byte : bytes_of 1 (route_form_by four).kind ≡ (route_form_by four).kind ∷ [] = of_routes (λ f. bytes_of 1 f.kind ≡ f.kind ∷ []) refl refl four in
      record {
        same = then_put (at + 2) (cond four 4 2) r.asn (then_put (at + 1) 1 r.router (f ∙ ap (λ (k : ℕ). sets d at (bytes_of 1 k)) k) g) h
            ∙ record_put (front_form four) (r.router ∷ r.asn ∷ []) d at one_byte
            ∙ ap (λ (b : Bool). sets d at (written (front_form b) (r.router ∷ r.asn ∷ []))) e;
        place = omega arith;
      }
