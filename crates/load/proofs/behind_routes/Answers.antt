-- The kind that stands at the place tells the size of the record there; each turn and each way out is a law of `Skipped`.
use Rattle.std.proofs.Common.{sym, ap, ◌∙◌}
use Rattle.std.specs.Prelude.{ℕ, ◌+◌}
use Rattle.snapshot.specs.Records.{route_forms, form_of, size}
use Rattle.load.specs.SkipLaws.{skipped_stop, skipped_end, skipped_next}
use Rattle.load.proofs.behind_routes.Goals as goal

pub returns-then-not-is_route : goal.returns-then-not-is_route
returns-then-not-is_route c = skipped_stop c.loop.invariant c.loop-test.true (sym c.is_route.ensures ∙ c.if-not-is_route.true)

pub loop-preserved : goal.loop-preserved
loop-preserved c =
    skipped_next c.loop.invariant c.loop-test.true (sym c.is_route.ensures ∙ c.if-not-is_route.false)
    (ap (λ (n : ℕ). c.loop.at + n) (c.route_size-at.ensures ∙ ap (λ (n : ℕ). size (form_of route_forms n)) c.kind_at-kind.ensures))

pub returns : goal.returns
returns c = skipped_end c.loop.invariant c.loop-test.false
