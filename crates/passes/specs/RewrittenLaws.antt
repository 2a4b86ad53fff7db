-- The passes of a valid policy leave in tables that hold a snapshot what filling in the rewritten snapshot leaves.
use Rattle.std.specs.Prelude.{ℕ, zero, suc, ◌+◌, ◌-◌, ◌≤◌, ◌<◌, ◌≡◌, refl, Bool, cond, List, [], ◌∷◌, ◌++◌, map, length, get_or, drop}
use Rattle.std.proofs.Common.{arith, add-one, sym, ap, ap₂, ◌∙◌, append-nil, ext_get_or, get_or-append-add, get_or-drop, le-leb}
use Rattle.std.proofs.Math.Decide.{dec_le}
use Rattle.std.proofs.Math.Path.{fun_ext}
use Rattle.std.proofs.lemmas.Simd.{map-map}
use Rattle.std.proofs.lemmas.List.{map-append}
use Rattle.std.proofs.Math.ListN.{get_or-append}
use Rattle.std.proofs.lemmas.List.Edits.{sets, sets-eq}
use Rattle.std.proofs.Math.Seq.{length-sets}
use Rattle.std.proofs.lemmas.Bool.{lt-leb}
use Rattle.model.specs.Rows.{span, table, column, start}
use Rattle.model.proofs.RowLaws.{table_length, table_at, table_same, table_append, table_snoc, start_first, start_next}
use Rattle.model.specs.Decision.{Route}
use Rattle.snapshot.specs.declared.Counts.{Counts}
use Rattle.snapshot.specs.Limits.{most_routes}
use Rattle.snapshot.specs.Format.{Prefix, Snapshot, Valid}
use Rattle.snapshot.specs.Tables.{Tables, all_routes, filled, Held, Room}
use Rattle.snapshot.proofs.TablesLaws.{all_append}
use Rattle.tables.specs.Judging.{route_at, routes_at, prefix_at}
use Rattle.tables.specs.PartsLaws.{columns_are, holding_parts}
use Rattle.tables.specs.HeldLaws.{held_is}
use Rattle.policy.specs.Policy.{Policy}
use Rattle.policy.specs.Policy as policies
use Rattle.policy.specs.Rewriting.{ruled, ruled_prefix, rewritten, with_rows, put_ruled}
use Rattle.policy.proofs.RewritingLaws.{filled_ruled}
use Rattle.policy.specs.Passing.{unruled, passes}
use Rattle.policy.proofs.PassingLaws.{passes_ruled}
use Rattle.passes.specs.Passes.{entry, entries, altered, owner_of}
use Rattle.passes.specs.PassesLaws.{entry_new, entry_old}

-- ---- the rows of all prefixes

module _ (t : Tables) (policy : Policy) where
  -- what the policy makes of the route in a row, as one of the first n prefixes
  abbrev made : ℕ → ℕ → Route
  made n q = ruled policy (column t.address (owner_of t.routes n q)) (column t.bits (owner_of t.routes n q)) (route_at t.rows q)

  -- the rows of the prefixes before the last are theirs, the others are the last one's
  made_before : (n q : ℕ) → q < start t.routes n → made n q ≡ made (suc n) q
  made_before n q l =
      ap (λ (p : ℕ). ruled policy (column t.address p) (column t.bits p) (route_at t.rows q))
      (sym (ap (λ (b : Bool). cond b n (owner_of t.routes n q)) (lt-leb (start t.routes n) q l)))

  made_last : (n k : ℕ) → ruled policy (column t.address n) (column t.bits n) (route_at t.rows (start t.routes n + k)) ≡ made (suc n) (start t.routes n + k)
  made_last n k =
      let q : ℕ = start t.routes n + k in
      ap (λ (p : ℕ). ruled policy (column t.address p) (column t.bits p) (route_at t.rows q))
      (sym (ap (λ (b : Bool). cond b n (owner_of t.routes n q)) (le-leb (start t.routes n) q (omega arith))))

  -- the routes of n prefixes, rewritten, row by row
  all_made : (n : ℕ) → all_routes (map (ruled_prefix policy) (table n (prefix_at t))) ≡ table (start t.routes n) (made n)
  all_made zero = ap (λ (m : ℕ). table m (made zero)) (sym (start_first t.routes))
  all_made (suc n) =
      let first : ℕ = start t.routes n in
      let count : ℕ = column t.routes n in
      let rule : Route → Route = ruled policy (column t.address n) (column t.bits n) in
      ap (λ (ps : List Prefix). all_routes (map (ruled_prefix policy) ps)) (table_snoc (prefix_at t) n)
      ∙ ap all_routes (map-append (ruled_prefix policy) (table n (prefix_at t)) (prefix_at t n ∷ []))
      ∙ all_append (map (ruled_prefix policy) (table n (prefix_at t))) (ruled_prefix policy (prefix_at t n) ∷ [])
      ∙ ap₂ {C = List Route} ◌++◌
      (all_made n ∙ table_same (made n) (made (suc n)) first (λ q l. made_before n q l))
      (append-nil (map rule (routes_at t.rows first count))
      ∙ map-map rule (λ k. route_at t.rows (first + k)) (span 0 count)
      ∙ table_same (λ k. rule (route_at t.rows (first + k))) (λ k. made (suc n) (first + k)) count (λ k l. made_last n k))
      ∙ sym (table_append (made (suc n)) first count)
      ∙ ap (λ (m : ℕ). table m (made (suc n))) (sym (start_next t.routes n) ∙ ap (start t.routes) (add-one n))

-- ---- a column whose first entries are set

sets_entries : (xs : List ℕ) (m : ℕ) (new : ℕ → ℕ) → m ≤ length xs → sets xs 0 (table m new) ≡ entries m new xs
sets_entries xs m new h =
    let vs : List ℕ = table m new in
    let n = table_length m new in
    let e1 = length-sets xs 0 vs in
    let e2 = table_length (length xs) (entry m new xs) in
    ext_get_or 0 (sets xs 0 vs) (entries m new xs) (omega arith)
    (λ k l. ap (λ (ys : List ℕ). get_or ys k 0) (sets-eq vs xs 0 (omega arith)) ∙ at k (omega arith) (dec_le m k) ∙ sym (table_at (entry m new xs) 0 (length xs) k (omega arith)))
  where
    at : (k : ℕ) → k < length xs → Dec (m ≤ k) → get_or (table m new ++ drop (0 + length (table m new)) xs) k 0 ≡ entry m new xs k
    at k l (yes i) =
        let n = table_length m new in
        let place : k ≡ length (table m new) + (k - m) = omega arith in
        ap (λ (j : ℕ). get_or (table m new ++ drop (0 + length (table m new)) xs) j 0) place
        ∙ get_or-append-add (table m new) (drop (0 + length (table m new)) xs) (k - m) 0
        ∙ get_or-drop (0 + length (table m new)) xs (k - m) 0
        ∙ ap (λ (j : ℕ). get_or xs j 0) (let e : 0 + length (table m new) + (k - m) ≡ k = omega arith in e)
        ∙ sym (entry_old m new xs k i)
    at k l (no i) =
        let n = table_length m new in
        get_or-append (table m new) (drop (0 + length (table m new)) xs) 0 k (omega arith)
        ∙ table_at new 0 m k (omega arith)
        ∙ sym (entry_new m new xs k (omega arith))

-- ---- the tables

module _ {counts : Counts} {t : Tables} {s : Snapshot} (policy : Policy) (good : policies.Valid policy) (room : Room t) (valid : Valid s) (held : Held counts t s) where
  abbrev own : ℕ → ℕ
  own q = owner_of t.routes counts.prefixes q

  rows_made : all_routes (rewritten policy s).prefixes ≡ table counts.routes (made t policy counts.prefixes)
  rows_made =
      let parts = holding_parts room (record { snapshot = s; valid = valid; held = held }) in
      ap (λ (u : Snapshot). all_routes (map (ruled_prefix policy) u.prefixes)) (held_is room valid held)
      ∙ all_made t policy counts.prefixes
      ∙ ap (λ (m : ℕ). table m (made t policy counts.prefixes)) parts.prefixes.1

  field_made : (of : Route → ℕ) (xs : List ℕ) → most_routes ≤ length xs
      → entries counts.routes (λ q. of (passes policy (column t.address (own q)) (column t.bits (own q)) (unruled (route_at t.rows q)))) xs
      ≡ sets xs 0 (map of (all_routes (rewritten policy s).prefixes))
  field_made of xs long =
      let parts = holding_parts room (record { snapshot = s; valid = valid; held = held }) in
      let most = parts.range.routes in
      let m : ℕ = counts.routes in
      let new : ℕ → ℕ = λ q. of (made t policy counts.prefixes q) in
      sym (ap (λ (rs : List Route). sets xs 0 (map of rs)) rows_made
      ∙ ap (sets xs 0) (map-map of (made t policy counts.prefixes) (span 0 m))
      ∙ sets_entries xs m new (omega arith)
      ∙ ap (λ (f : ℕ → ℕ). entries m f xs)
      (fun_ext λ q. ap of (sym (passes_ruled policy (column t.address (own q)) (column t.bits (own q)) (route_at t.rows q) good.sessions))))

  -- all rows altered by the passes
  pub passes_fill : with_rows t (altered counts.routes (λ q r. passes policy (column t.address (own q)) (column t.bits (own q)) (unruled r)) t.rows)
      ≡ filled (rewritten policy s) t
  passes_fill =
      ap (with_rows t)
      (columns_are (put_ruled t.rows (all_routes (rewritten policy s).prefixes)) refl refl
      (field_made (λ r. r.preference) t.rows.preference room.prefixes.rows.preference)
      refl refl
      (field_made (λ r. r.mark) t.rows.mark room.prefixes.rows.mark)
      (field_made (λ r. r.med) t.rows.med room.prefixes.rows.med)
      refl refl)
      ∙ sym (filled_ruled policy s held)
