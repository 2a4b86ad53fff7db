-- Three steps, each on the front that the one before it left.
use Rattle.std.proofs.Common.{rules}
use Rattle.model.specs.Rows.{column, keep_least, keep_greatest}
use Rattle.model.proofs.LeastLaws.{picks_least, picks_greatest}
use Rattle.model.proofs.ListLaws.{inside_step, front_long, front_inside, packed_front, packed_next}
use Rattle.choice.proofs.preferred.Goals as goal

pub keep_highest-high-requires : goal.keep_highest-high-requires
keep_highest-high-requires c = record { each = λ i l. let h = c.requires.0.below i l in search rules }

pub keep_lowest-short-requires : goal.keep_lowest-short-requires
keep_lowest-short-requires c =
    let a = c.args in
    let high = c.keep_highest-high.ensures (column a.routes.now.preference.now) (record { each = λ i l b p. search rules }) in
    let inside = front_inside (packed_front high) (inside_step (picks_greatest (column a.routes.now.preference.now)) a.rows.now c.requires.1) in
    record { each = λ i l. let h = inside.below i l in search rules }

pub keep_lowest-requires : goal.keep_lowest-requires
keep_lowest-requires c =
    let a = c.args in
    let high = c.keep_highest-high.ensures (column a.routes.now.preference.now) (record { each = λ i l b p. search rules }) in
    let short = packed_next (keep_least (column a.routes.now.path.now)) high (c.keep_lowest-short.ensures (column a.routes.now.path.now) (record { each = λ i l b p. search rules })) in
    let inside = front_inside (packed_front short) (inside_step (picks_least (column a.routes.now.path.now)) (keep_greatest (column a.routes.now.preference.now) a.rows.now)
    (inside_step (picks_greatest (column a.routes.now.preference.now)) a.rows.now c.requires.2)) in
    record { each = λ i l. let h = inside.below i l in search rules }

pub returns : goal.returns
returns c =
    let a = c.args in
    let high = c.keep_highest-high.ensures (column a.routes.now.preference.now) (record { each = λ i l b p. search rules }) in
    let short = packed_next (keep_least (column a.routes.now.path.now)) high (c.keep_lowest-short.ensures (column a.routes.now.path.now) (record { each = λ i l b p. search rules })) in
    packed_next (keep_least (column a.routes.now.origin.now)) short (c.keep_lowest.ensures (column a.routes.now.origin.now) (record { each = λ i l b p. search rules }))

pub slice_bounds-keep_lowest-end-2 : goal.slice_bounds-keep_lowest-end-2
slice_bounds-keep_lowest-end-2 c =
    front_long (packed_front (c.keep_highest-high.ensures (column c.args.routes.now.preference.now) (record { each = λ i l b p. search rules })))

pub slice_bounds-keep_lowest-end : goal.slice_bounds-keep_lowest-end
slice_bounds-keep_lowest-end c = (packed_front (c.keep_highest-high.ensures (column c.args.routes.now.preference.now) (record { each = λ i l b p. search rules }))).few

pub slice_bounds-keep_lowest-end-3 : goal.slice_bounds-keep_lowest-end-3
slice_bounds-keep_lowest-end-3 c =
    let a = c.args in
    let high = c.keep_highest-high.ensures (column a.routes.now.preference.now) (record { each = λ i l b p. search rules }) in
    (packed_front (packed_next (keep_least (column a.routes.now.path.now)) high (c.keep_lowest-short.ensures (column a.routes.now.path.now) (record { each = λ i l b p. search rules })))).few

pub slice_bounds-keep_lowest-end-4 : goal.slice_bounds-keep_lowest-end-4
slice_bounds-keep_lowest-end-4 c =
    let a = c.args in
    let high = c.keep_highest-high.ensures (column a.routes.now.preference.now) (record { each = λ i l b p. search rules }) in
    front_long (packed_front (packed_next (keep_least (column a.routes.now.path.now)) high (c.keep_lowest-short.ensures (column a.routes.now.path.now) (record { each = λ i l b p. search rules }))))
