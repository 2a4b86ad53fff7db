-- The rows' owners, then the usual preferences, then the passes.
use Rattle.std.proofs.Common.{rules, ◌≡◌, length}
use Rattle.clauses.specs.Walking.{sessions_from}
use Rattle.passes.specs.PassesLaws.{owners_told, applied_in}
use Rattle.passes.proofs.apply.Goals as goal

pub pass_all-requires-clause-told : goal.pass_all-requires-clause-told
pass_all-requires-clause-told c =
    let long : c.args.rows ≡ length c.mark_owners.new.owner = search rules in
    let t = owners_told c.requires.lent long c.mark_owners.ensures in
    record { below = t.below; addresses = t.addresses; lengths = t.lengths }

pub returns-clause-rewritten : goal.returns-clause-rewritten
returns-clause-rewritten c =
    let long : c.args.rows ≡ length c.mark_owners.new.owner = search rules in
    applied_in (sessions_from c.args.policy.now 0) c.requires.lent c.mark_owners.ensures long c.set_usual.ensures c.pass_all.ensures.rewritten
