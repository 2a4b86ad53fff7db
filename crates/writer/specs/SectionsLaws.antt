-- The bytes of each section, taken off one by one from the front, as the loops put them.
use Rattle.std.specs.Prelude.{ℕ, suc, ◌+◌, ◌-◌, ◌<◌, ◌≡◌, refl, ◌≢◌, List, [], ◌∷◌, ◌++◌, map, length}
use Rattle.std.proofs.Common.{add-one, arith, sym, ap, ◌∙◌, subst, append_assoc}
use Rattle.std.proofs.Math.Nat.{sub-zero}
use Rattle.std.proofs.lemmas.List.Edits.{sets}
use Rattle.model.specs.Rows.{table, column, start}
use Rattle.model.proofs.LoopLaws.{rest, rest_next, rest_end}
use Rattle.snapshot.specs.Records.{router_form, distance_form, prefix_form, route_forms, written, written_in}
use Rattle.snapshot.specs.Format.{Pair, row, rows, routers_bytes, routes_bytes, prefixes_bytes, route_fields}
use Rattle.snapshot.specs.Tables.{Columns, Tables}
use Rattle.snapshot.proofs.PairsLaws.{due_row, due_equal, due_other, due_row_end, due_end}
use Rattle.tables.specs.Judging.{route_at, routes_at, prefix_at, cell}
use Rattle.records.specs.Putting.{Space, Puts}
use Rattle.records.specs.PuttingLaws.{Left, left, left_next, left_room, left_as, left_done, left_end}
use Rattle.writer.specs.Writing.{pairs_bytes, row_bytes, rows_bytes, prefix_from, prefix_bytes}

-- the k-th part is the first of what is left from it on
pub record Step (bytes : ℕ → List ℕ) (k : ℕ) (part : List ℕ) : Type 0 where
  pub first : bytes k ≡ part ++ bytes (k + 1)

-- A loop that puts the k-th part in its k-th turn: `bytes k` is what is left from the k-th part on, `whole` what is put in all.
pub record Section (bytes : ℕ → List ℕ) (whole before : List ℕ) (first k : ℕ) (out : List ℕ) (at : ℕ) : Type 0 where
  pub left : Left (sets before first whole) (first + length whole) out at (bytes k)

module _ {bytes : ℕ → List ℕ} {whole before : List ℕ} {first : ℕ} where
  pub section : bytes 0 ≡ whole → Space whole before first → Section bytes whole before first 0 before first
  section e h = record { left = left_as (sym e) (left h) }

  module _ {k : ℕ} {out : List ℕ} {at : ℕ} (s : Section bytes whole before first k out at) where
    module _ {part : List ℕ} (step : Step bytes k part) where
      pub section_room : Space part out at
      section_room = left_room part (bytes (k + 1)) (left_as step.first s.left)

      pub section_next : {after : List ℕ} {next : ℕ} → after ≡ sets out at part → next ≡ at + length part → Section bytes whole before first (k + 1) after next
      section_next f p = record { left = left_next part (bytes (k + 1)) (left_as step.first s.left) f p }

    pub section_end : {n : ℕ} → k ≡ n → bytes n ≡ [] → Puts whole before first out at
    section_end l e =
        let last = left_as (ap bytes l ∙ e) s.left in
        record { same = left_done last; place = left_end last }

-- ---- routers

-- the router records from index k on
abbrev pub ids_from : List ℕ → ℕ → ℕ → List ℕ
ids_from ids n k = routers_bytes k (map (column ids) (rest k n))

module _ (ids : List ℕ) (n : ℕ) where
  pub ids_first : ids_from ids n 0 ≡ routers_bytes 0 (table n (column ids))
  ids_first = rw sub-zero

  pub ids_next : (k : ℕ) → k < n → Step (ids_from ids n) k (written router_form (k ∷ column ids k ∷ []))
  ids_next k l = record {
    first = ap (λ (l : List ℕ). routers_bytes k (map (column ids) l)) (rest_next k n l) ∙ ap (λ (j : ℕ). written router_form (k ∷ column ids k ∷ []) ++ routers_bytes j (map (column ids) (rest (k + 1) n))) (sym (add-one k));
  }

  pub ids_last : ids_from ids n n ≡ []
  ids_last = ap (λ (l : List ℕ). routers_bytes n (map (column ids) l)) (rest_end n n (omega arith))

-- ---- distances

pairs_append : (ds : List ℕ) (ps qs : List Pair) → pairs_bytes ds (ps ++ qs) ≡ pairs_bytes ds ps ++ pairs_bytes ds qs
pairs_append ds [] qs = refl
pairs_append ds (p ∷ ps) qs =
    ap (λ (l : List ℕ). written distance_form (p.from ∷ p.to ∷ cell ds p.from p.to ∷ []) ++ l) (pairs_append ds ps qs)

-- the distance records from one router, from `to` on; and those of the routers from `from` on
abbrev pub row_from : List ℕ → ℕ → ℕ → ℕ → List ℕ
row_from ds n from to = pairs_bytes ds (row from to (n - to))

abbrev pub rows_from : List ℕ → ℕ → ℕ → List ℕ
rows_from ds n from = pairs_bytes ds (rows n from (n - from))

module _ (ds : List ℕ) (n from : ℕ) where
  pub row_first : row_from ds n from 0 ≡ row_bytes ds n from
  row_first = rw sub-zero

  pub row_equal : (to : ℕ) → to < n → from ≡ to → Step (row_from ds n from) to []
  row_equal to l e = record {
    first = ap (pairs_bytes ds) (due_equal n from to l e) ∙ ap (row_from ds n from) (sym (add-one to));
  }

  pub row_other : (to : ℕ) → to < n → from ≢ to → Step (row_from ds n from) to (written distance_form (from ∷ to ∷ cell ds from to ∷ []))
  row_other to l e = record {
    first = ap (pairs_bytes ds) (due_other n from to l e)
        ∙ ap (λ (t : ℕ). written distance_form (from ∷ to ∷ cell ds from to ∷ []) ++ row_from ds n from t) (sym (add-one to));
  }

  pub row_last : row_from ds n from n ≡ []
  row_last = ap (pairs_bytes ds) (due_row_end n from)

  pub rows_next : from < n → Step (rows_from ds n) from (row_bytes ds n from)
  rows_next l = record {
    first = ap (pairs_bytes ds) (due_row n from l) ∙ pairs_append ds (row from 0 n) (rows n (suc from) (n - suc from))
        ∙ ap (λ (f : ℕ). row_bytes ds n from ++ rows_from ds n f) (sym (add-one from));
  }

pub rows_first : (ds : List ℕ) (n : ℕ) → rows_from ds n 0 ≡ rows_bytes ds n
rows_first ds n = rw sub-zero

pub rows_last : (ds : List ℕ) (n : ℕ) → rows_from ds n n ≡ []
rows_last ds n = ap (pairs_bytes ds) (due_end n)

-- ---- routes

-- the records of the routes from the k-th on, of those from a row on
abbrev pub routes_from : Columns → ℕ → ℕ → ℕ → List ℕ
routes_from c at n k = routes_bytes (map (λ j. route_at c (at + j)) (rest k n))

module _ (c : Columns) (at n : ℕ) where
  pub routes_first : routes_from c at n 0 ≡ routes_bytes (routes_at c at n)
  routes_first = rw sub-zero

  pub routes_next : (k : ℕ) → k < n → Step (routes_from c at n) k (written_in route_forms (route_fields (route_at c (at + k))))
  routes_next k l = record {
    first = ap (λ (l : List ℕ). routes_bytes (map (λ j. route_at c (at + j)) l)) (rest_next k n l);
  }

  pub routes_last : routes_from c at n n ≡ []
  routes_last = ap (λ (l : List ℕ). routes_bytes (map (λ j. route_at c (at + j)) l)) (rest_end n n (omega arith))

-- ---- prefixes

-- the records of the prefixes from p on, each with its routes
abbrev pub prefixes_from : Tables → ℕ → ℕ → List ℕ
prefixes_from t n p = prefixes_bytes (map (prefix_at t) (rest p n))

module _ (t : Tables) (n : ℕ) where
  pub prefixes_first : prefixes_from t n 0 ≡ prefixes_bytes (table n (prefix_at t))
  prefixes_first = rw sub-zero

  at_start : (p : ℕ) → p < n → Step (prefixes_from t n) p (prefix_bytes (prefix_at t p))
  at_start p l = record {
    first = ap (λ (l : List ℕ). prefixes_bytes (map (prefix_at t) l)) (rest_next p n l)
        ∙ sym (append_assoc (written prefix_form (column t.address p ∷ column t.bits p ∷ [])) (routes_bytes (prefix_at t p).routes) (prefixes_from t n (p + 1)));
  }

  pub prefixes_next : (p row : ℕ) → p < n → row ≡ start t.routes p → Step (prefixes_from t n) p (prefix_bytes (prefix_from t p row))
  prefixes_next p row l e = subst (λ (row : ℕ). Step (prefixes_from t n) p (prefix_bytes (prefix_from t p row))) (sym e) (at_start p l)

  pub prefixes_last : prefixes_from t n n ≡ []
  prefixes_last = ap (λ (l : List ℕ). prefixes_bytes (map (prefix_at t) l)) (rest_end n n (omega arith))
