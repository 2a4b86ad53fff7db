-- What is held where the routers stand at rest is the early and the late assignment.
use Rattle.std.proofs.Common.{ℕ, List, length, take, ◌≡◌, sym, ap, ◌∙◌, arith, length-take}
use Rattle.model.specs.Rows.{table, column}
use Rattle.model.proofs.RowLaws.{table_at}
use Rattle.model.specs.Stability.{Sound}
use Rattle.model.specs.Contest.{Calm, contest, earliest, latest, at_place, holding}
use Rattle.model.proofs.ContestLaws.{earliest_calm, latest_calm}
use Rattle.model.proofs.EarlyLateLaws.{stands_chosen, fair}
use Rattle.model.specs.Columns.{Columns, routes_mesh, lent_mesh, choice_of, Rests}
use Rattle.rows.specs.Lent.{columns_in}
use Rattle.hold.proofs.forecast_rows.Goals as goal

-- what is held where the routers stand at the places of a state
held_is : (ids distances : List ℕ) (t : Columns) (x : ℕ → List ℕ) (n k : ℕ) {own held : List ℕ} → k ≡ n → length own ≡ n
    → own ≡ table k (at_place (routes_mesh k t) (x k))
    → held ≡ table (length own) (choice_of (length own) ids distances t own)
    → held ≡ holding (lent_mesh n ids distances t) (x n)
held_is ids distances t x n k {own} e l o h =
    h
    ∙ ap (λ (m : ℕ). table m (choice_of m ids distances t own)) l
    ∙ ap (λ (rows : List ℕ). table n (choice_of n ids distances t rows)) (o ∙ ap (λ (m : ℕ). table m (at_place (routes_mesh m t) (x m))) e)

-- and there every router that holds a row chooses it
rests : (ids distances : List ℕ) (t : Columns) (x : ℕ → List ℕ) (n k : ℕ) {own : List ℕ} → k ≡ n → Sound (lent_mesh n ids distances t)
    → Calm (contest (lent_mesh n ids distances t)) (x n) → own ≡ table k (at_place (routes_mesh k t) (x k)) → Rests n ids distances t own
rests ids distances t x n k {own} e sound c o r l some =
    let M = lent_mesh n ids distances t in
    let stood : own ≡ table n (at_place M (x n)) = o ∙ ap (λ (m : ℕ). table m (at_place (routes_mesh m t) (x m))) e in
    let here : column own r ≡ at_place M (x n) r = ap (λ (rows : List ℕ). column rows r) stood ∙ table_at (at_place M (x n)) 0 n r l in
    ap (λ (rows : List ℕ). choice_of n ids distances t rows r) stood ∙ stands_chosen M sound (x n) c r l (λ z. some (here ∙ z)) ∙ sym here

pub hold-requires-clause-rests : goal.hold-requires-clause-rests
hold-requires-clause-rests c =
    let a = c.args in
    let t = columns_in a.mesh.now.routes in
    let n = length a.early.now in
    let M = lent_mesh n a.mesh.now.ids.now a.mesh.now.distances.now t in
    let sound = c.requires.placed.sound in
    let k : length (take n c.vacant-vacant_early.result) ≡ n = simp length-take (omega arith) in
    let long : length c.own_rows.new.early ≡ n = omega arith in
    rw long (rests a.mesh.now.ids.now a.mesh.now.distances.now t (λ m. earliest (contest (routes_mesh m t))) _ _ k sound (earliest_calm (contest M) (fair M sound)) c.own_rows.ensures.early_rows)

pub hold-requires-2-clause-rests : goal.hold-requires-2-clause-rests
hold-requires-2-clause-rests c =
    let a = c.args in
    let t = columns_in a.mesh.now.routes in
    let n = length a.early.now in
    let M = lent_mesh n a.mesh.now.ids.now a.mesh.now.distances.now t in
    let sound = c.requires.placed.sound in
    let k : length (take n c.vacant-vacant_early.result) ≡ n = simp length-take (omega arith) in
    let k' : length (take n c.vacant-vacant_late.result) ≡ n = simp length-take (omega arith) in
    let long : length c.own_rows.new.late ≡ n = omega arith in
    rw long (rests a.mesh.now.ids.now a.mesh.now.distances.now t (λ m. latest (contest (routes_mesh m t))) _ _ k sound (latest_calm (contest M) (fair M sound)) c.own_rows.ensures.late_rows)

pub returns : goal.returns
returns c =
    let a = c.args in
    let t = columns_in a.mesh.now.routes in
    let n = length a.early.now in
    let k : length (take n c.vacant-vacant_early.result) ≡ n = simp length-take (omega arith) in
    let k' : length (take n c.vacant-vacant_late.result) ≡ n = simp length-take (omega arith) in
    record {
      early_rows = held_is a.mesh.now.ids.now a.mesh.now.distances.now t (λ m. earliest (contest (routes_mesh m t))) _ _ k (omega arith) c.own_rows.ensures.early_rows c.hold.ensures;
      late_rows = held_is a.mesh.now.ids.now a.mesh.now.distances.now t (λ m. latest (contest (routes_mesh m t))) _ _ k (omega arith) c.own_rows.ensures.late_rows c.hold-2.ensures;
    }
