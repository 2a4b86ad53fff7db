-- House habit: one byte of kind, then a body of fields whose widths the kind fixes.
use Rattle.std.specs.Prelude.{ℕ, suc, ◌+◌, ◌^◌, ◌<◌, Bool, true, false, cond, List, [], ◌∷◌, ◌++◌, get_or, eqb, ltb}
use Rattle.wire.specs.Numbers.{bytes_of, number_at}
use Rattle.snapshot.specs.Limits.{last_two_byte_asn}

-- a kind of record: the kind byte, and the widths of the body's fields
pub record Form : Type 0 where
  pub kind : ℕ
  pub widths : List ℕ

-- number of routers
abbrev pub count_form : Form
count_form = record { kind = 1; widths = 1 ∷ [] }

-- router index, router id
abbrev pub router_form : Form
router_form = record { kind = 2; widths = 1 ∷ 4 ∷ [] }

-- from, to, distance
abbrev pub distance_form : Form
distance_form = record { kind = 3; widths = 1 ∷ 1 ∷ 4 ∷ [] }

-- prefix address, length
abbrev pub prefix_form : Form
prefix_form = record { kind = 4; widths = 4 ∷ 1 ∷ [] }

-- router, neighbour AS, local preference, path length, origin, MED mark, MED, neighbour id, peer address
abbrev pub route_form : Form
route_form = record { kind = 5; widths = 1 ∷ 2 ∷ 4 ∷ 2 ∷ 1 ∷ 1 ∷ 4 ∷ 4 ∷ 4 ∷ [] }

-- end: number of records before it
abbrev pub end_form : Form
end_form = record { kind = 6; widths = 4 ∷ [] }

-- as kind 5, with a four-byte neighbour AS
abbrev pub four_byte_route_form : Form
four_byte_route_form = record { kind = 7; widths = 1 ∷ 4 ∷ 4 ∷ 2 ∷ 1 ∷ 1 ∷ 4 ∷ 4 ∷ 4 ∷ [] }

-- whether an AS is past those of two bytes
abbrev pub four_byte : ℕ → Bool
four_byte asn = ltb last_two_byte_asn asn

-- the form of a route, by whether its neighbour AS is
abbrev pub route_form_by : Bool → Form
route_form_by four = cond four four_byte_route_form route_form

-- the table of kinds
abbrev pub forms : List Form
forms = count_form ∷ router_form ∷ distance_form ∷ prefix_form ∷ route_form ∷ end_form ∷ four_byte_route_form ∷ []

-- what is said of the form of a kind, or of a kind that no form has
abbrev pub of_kind : {A : Type 0} → List Form → ℕ → (Form → A) → A → A
of_kind [] k its otherwise = otherwise
of_kind (f ∷ fs) k its otherwise = cond (eqb k f.kind) (its f) (of_kind fs k its otherwise)

-- whether a form of a table has the kind
abbrev pub known : List Form → ℕ → Bool
known table k = of_kind table k (λ f. true) false

-- the forms that a record may have where it is due: the usual one and others; and which of them it has with these values
pub record Forms : Type 0 where
  pub usual : Form
  pub others : List Form
  pub chosen : List ℕ → Form

-- one form for all values
abbrev pub only : Form → Forms
only f = record { usual = f; others = []; chosen = λ vs. f }

-- the usual form, or another where the values pass a test
abbrev pub two : Form → Form → (List ℕ → Bool) → Forms
two usual other test = record { usual = usual; others = other ∷ []; chosen = λ vs. cond (test vs) other usual }

-- a route: kind 5, or kind 7 where its neighbour AS is past those of two bytes
abbrev pub route_forms : Forms
route_forms = two route_form four_byte_route_form (λ vs. four_byte (get_or vs 1 0))

-- the one with this kind, or else the usual one
abbrev pub form_of : Forms → ℕ → Form
form_of fs k = of_kind fs.others k (λ f. f) fs.usual

-- whether one of them has this kind
abbrev pub stands : Forms → ℕ → Bool
stands fs k = eqb k (form_of fs k).kind

-- the sum of a list
abbrev pub sum : List ℕ → ℕ
sum [] = 0
sum (w ∷ ws) = w + sum ws

-- the bytes of a record, its kind's one among them
abbrev pub size : Form → ℕ
size f = suc (sum f.widths)

-- the bytes of fields with these values
abbrev pub spread : List ℕ → List ℕ → List ℕ
spread [] vs = []
spread (w ∷ ws) [] = []
spread (w ∷ ws) (v ∷ vs) = bytes_of w v ++ spread ws vs

-- the values of fields k bytes behind a place
abbrev pub fields : List ℕ → List ℕ → ℕ → ℕ → List ℕ
fields [] bs at k = []
fields (w ∷ ws) bs at k = number_at w bs (at + k) ∷ fields ws bs at (k + w)

-- as many values as widths, each within its width
abbrev pub Fits : List ℕ → List ℕ → Type 0
Fits [] [] = Unit {0}
Fits [] (v ∷ vs) = ⊥
Fits (w ∷ ws) [] = ⊥
Fits (w ∷ ws) (v ∷ vs) = (v < 256 ^ w) × Fits ws vs

-- the bytes of a record with these values
abbrev pub written : Form → List ℕ → List ℕ
written f vs = f.kind ∷ spread f.widths vs

-- the same in the form that the values choose
abbrev pub written_in : Forms → List ℕ → List ℕ
written_in fs vs = written (fs.chosen vs) vs

-- the form of the record at a place, where it has one of these
abbrev pub form_at : Forms → List ℕ → ℕ → Form
form_at fs bs at = form_of fs (get_or bs at 0)

-- the values of the record at a place
abbrev pub values_at : Form → List ℕ → ℕ → List ℕ
values_at f bs at = fields f.widths bs at 1

-- the kind of the record with which bytes begin; 0 where there are none
abbrev pub kind : List ℕ → ℕ
kind bs = get_or bs 0 0

-- the values of the record with which bytes begin
abbrev pub values : Form → List ℕ → List ℕ
values f bs = values_at f bs 0

-- the form of the record with which bytes begin, where it has one of these,
abbrev pub form_in : Forms → List ℕ → Form
form_in fs bs = form_of fs (kind bs)

-- its size,
abbrev pub size_in : Forms → List ℕ → ℕ
size_in fs bs = size (form_in fs bs)

-- and its values
abbrev pub values_in : Forms → List ℕ → List ℕ
values_in fs bs = values (form_in fs bs) bs
