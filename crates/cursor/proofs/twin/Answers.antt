-- The chain goes over the numbers of the ids, and so over the ids.
use Rattle.std.proofs.Common.{◌∙◌, eqb, rules, tests, refl, arith}
use Rattle.std.proofs.lemmas.Iterator.{YieldsList-from_range}
use Rattle.std.proofs.lemmas.Iterator.Search.{any_from_yields_List}
use Rattle.cursor.specs.Steps.{id_at, given_before, router_place}
use Rattle.cursor.specs.StepsLaws.{any_of_table}
use Rattle.cursor.proofs.twin.Goals as goal

pub returns : goal.returns
unfolding given_before
returns c =
    let a = c.args in
    any_from_yields_List (λ i. eqb a.id (id_at a.input.now (router_place a.first i))) _ _ _ c.any.ensures.ran (YieldsList-from_range 0 a.given a.given refl (omega arith)) (λ x b q k. search (rules, tests))
    ∙ any_of_table (eqb a.id) (λ i. id_at a.input.now (router_place a.first i)) 0 a.given
