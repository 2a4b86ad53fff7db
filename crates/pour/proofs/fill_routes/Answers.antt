-- The kind that stands at the place tells the form of the record there; each turn and each way out is a law of `Taken`.
use Rattle.std.proofs.Common.{arith, rules, sym, ap, ◌∙◌}
use Rattle.std.specs.Prelude.{ℕ, ◌+◌, ◌≡◌, eqb}
use Rattle.snapshot.specs.Records.{Form, route_form_by, route_forms, form_at, values_at, size}
use Rattle.snapshot.specs.Reading.{route_of}
use Rattle.snapshot.specs.Plain.{route_is}
use Rattle.fill.specs.StoresLaws.{taken_alike, taken_stop, taken_next, taken_end, wide_alike}
use Rattle.pour.proofs.fill_routes.Goals as goal

pub returns-then-not-is_route-clause-filled : goal.returns-then-not-is_route-clause-filled
returns-then-not-is_route-clause-filled c =
    taken_stop c.loop-row.invariant.taken c.loop-row-test.true (sym c.is_route.ensures ∙ c.if-not-is_route.true)

pub put_route-requires : goal.put_route-requires
put_route-requires c =
    let w = wide_alike c.requires.2 (taken_alike c.loop-row.invariant.taken) in
    omega (arith, w)

pub loop-row-preserved : goal.loop-row-preserved
loop-row-preserved c =
    let bs = c.args.input.now in
    let at = c.loop-row.at in
    let by_kind : route_form_by (eqb c.kind_at-kind.result 7) ≡ form_at route_forms bs at = ap (λ (n : ℕ). route_form_by (eqb n 7)) c.kind_at-kind.ensures in
    record {
      taken = taken_next c.loop-row.invariant.taken c.loop-row-test.true (sym c.is_route.ensures ∙ c.if-not-is_route.false)
          (ap route_is c.route_at-r.ensures ∙ ap (λ (f : Form). route_of (values_at f bs at)) by_kind)
          (ap (λ (n : ℕ). at + n) c.route_size-at.ensures ∙ ap (λ (f : Form). at + size f) by_kind) c.put_route.ensures.put;
      kept = search rules;
    }

pub returns-clause-filled : goal.returns-clause-filled
returns-clause-filled c = taken_end c.loop-row.invariant.taken c.loop-row-test.false
