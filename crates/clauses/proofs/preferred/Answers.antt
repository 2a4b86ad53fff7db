-- By the first clause that fits.
use Rattle.std.proofs.Common.{rules, tests, ◌≡◌, ◌∙◌, ap, Option}
use Rattle.std.specs.Option.{option_map, option_map_or}
use Rattle.std.proofs.lemmas.Iterator.{YieldsList-from_slice}
use Rattle.std.proofs.lemmas.Iterator.Search.{find_from_yields_List}
use Rattle.policy.specs.Rewriting.{fits, usual}
use Rattle.clauses.specs.declared.Clause as code
use Rattle.clauses.specs.Walking.{clause_of}
use Rattle.clauses.specs.LoopLaws.{first_gives}
use Rattle.clauses.proofs.preferred.Goals as goal

pub returns : goal.returns
returns c =
    let r = c.args.route.now in
    let cs = c.args.clauses.now in
    let found = find_from_yields_List (λ (x : code.Clause). fits (clause_of x) r.address r.bits r.path r.neighbour) _ _ c.find.result c.find.ensures.ran (YieldsList-from_slice cs cc) (λ x b q k. search (rules, tests)) in
    let gives : c.map_or.result ≡ option_map_or (λ (x : code.Clause). x.preference) (option_map (λ x. x.now) c.find.result) usual = search rules in
    gives ∙ ap (λ (o : Option code.Clause). option_map_or (λ (x : code.Clause). x.preference) o usual) found ∙ first_gives cs r.address r.bits r.path r.neighbour
