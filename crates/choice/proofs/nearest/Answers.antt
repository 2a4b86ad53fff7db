-- Three steps, each on the front that the one before it left.
use Rattle.std.proofs.Common.{ℕ, cond, eqb, rules}
use Rattle.rows.specs.declared.Mesh.{Mesh}
use Rattle.model.specs.Rows.{column, keep_least}
use Rattle.model.specs.Columns.{distance_in}
use Rattle.model.proofs.LeastLaws.{picks_least}
use Rattle.model.proofs.ListLaws.{inside_step, inside_long, front_long, front_inside, front_next, packed_front}
use Rattle.choice.proofs.nearest.Goals as goal

-- the keys of steps 6 and 7
abbrev far : Mesh → ℕ → ℕ → ℕ
far m r q = cond (eqb (column m.routes.router.now q) r) 0 (distance_in m.distances.now r (column m.routes.router.now q))

abbrev tie_id : Mesh → ℕ → ℕ → ℕ
tie_id m r q = cond (eqb (column m.routes.router.now q) r) (column m.routes.nid.now q) (column m.ids.now (column m.routes.router.now q))

pub keep_lowest-near-requires : goal.keep_lowest-near-requires
keep_lowest-near-requires c = record {
  each = λ i l.
      let h = c.requires.inside.0.below i l in
      let b = (c.requires.most_routers_in_bounds.2 _ h).0 in
      search rules;
}

pub slice_bounds-keep_lowest-end : goal.slice_bounds-keep_lowest-end
slice_bounds-keep_lowest-end c = (packed_front (c.keep_lowest-near.ensures (far c.args.mesh.now c.args.r) (record { each = λ i l b p. search rules }))).few

pub slice_bounds-keep_lowest-end-2 : goal.slice_bounds-keep_lowest-end-2
slice_bounds-keep_lowest-end-2 c = front_long (packed_front (c.keep_lowest-near.ensures (far c.args.mesh.now c.args.r) (record { each = λ i l b p. search rules })))

pub keep_lowest-low-requires : goal.keep_lowest-low-requires
keep_lowest-low-requires c =
    let a = c.args in
    let near = packed_front (c.keep_lowest-near.ensures (far a.mesh.now a.r) (record { each = λ i l b p. search rules })) in
    let inside = front_inside near (inside_step (picks_least (far a.mesh.now a.r)) a.rows.now c.requires.inside.0) in
    record {
      each = λ i l.
          let h = inside.below i l in
          let b = (c.requires.most_routers_in_bounds.2 _ h).1 in
          search rules;
    }

pub slice_bounds-keep_lowest-end-3 : goal.slice_bounds-keep_lowest-end-3
slice_bounds-keep_lowest-end-3 c =
    let a = c.args in
    let near = packed_front (c.keep_lowest-near.ensures (far a.mesh.now a.r) (record { each = λ i l b p. search rules })) in
    (front_next (keep_least (tie_id a.mesh.now a.r)) near (packed_front (c.keep_lowest-low.ensures (tie_id a.mesh.now a.r) (record { each = λ i l b p. search rules })))).few

pub slice_bounds-keep_lowest-end-4 : goal.slice_bounds-keep_lowest-end-4
slice_bounds-keep_lowest-end-4 c =
    let a = c.args in
    let near = packed_front (c.keep_lowest-near.ensures (far a.mesh.now a.r) (record { each = λ i l b p. search rules })) in
    front_long (front_next (keep_least (tie_id a.mesh.now a.r)) near (packed_front (c.keep_lowest-low.ensures (tie_id a.mesh.now a.r) (record { each = λ i l b p. search rules }))))

pub keep_lowest-requires : goal.keep_lowest-requires
keep_lowest-requires c =
    let a = c.args in
    let near = packed_front (c.keep_lowest-near.ensures (far a.mesh.now a.r) (record { each = λ i l b p. search rules })) in
    let low = front_next (keep_least (tie_id a.mesh.now a.r)) near (packed_front (c.keep_lowest-low.ensures (tie_id a.mesh.now a.r) (record { each = λ i l b p. search rules }))) in
    let inside = front_inside low
    (inside_step (picks_least (tie_id a.mesh.now a.r)) (keep_least (far a.mesh.now a.r) a.rows.now) (inside_step (picks_least (far a.mesh.now a.r)) a.rows.now (inside_long c.requires.inside.0 c.requires.inside.2))) in
    record { each = λ i l. let h = inside.below i l in search rules }

pub returns : goal.returns
returns c =
    let a = c.args in
    let near = packed_front (c.keep_lowest-near.ensures (far a.mesh.now a.r) (record { each = λ i l b p. search rules })) in
    let low = front_next (keep_least (tie_id a.mesh.now a.r)) near (packed_front (c.keep_lowest-low.ensures (tie_id a.mesh.now a.r) (record { each = λ i l b p. search rules }))) in
    front_next (keep_least (column a.mesh.now.routes.peer.now)) low (packed_front (c.keep_lowest.ensures (column a.mesh.now.routes.peer.now) (record { each = λ i l b p. search rules })))
