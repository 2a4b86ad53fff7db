-- Each turn and each way out is a law of `Listed`.
use Rattle.std.proofs.Common.{◌-◌, arith, rules, ap, ap₂, ◌∙◌}
use Rattle.std.specs.Prelude.{ℕ, List, length, set}
use Rattle.snapshot.specs.Tables.{Tables}
use Rattle.cursor.specs.declared.Network.{Network}
use Rattle.fill.specs.StoresLaws.{listed_stop, listed_alike, listed_room, listed_next, listed_end, wide_lists}
use Rattle.pour.proofs.fill_prefixes.Goals as goal

pub returns-then-input-first-clause-put : goal.returns-then-input-first-clause-put
returns-then-input-first-clause-put c = listed_stop c.loop-p.invariant.listed c.loop-p-test.true c.if-input-first.true

pub fill_columns-end-requires : goal.fill_columns-end-requires
fill_columns-end-requires c =
    let s = c.loop-p.invariant.listed in
    (c.if-input-first.false, s.few, (wide_lists c.requires.2 (listed_alike s)).rows)

pub overflow_cast-inside : goal.overflow_cast-inside
overflow_cast-inside c = omega (arith, listed_room c.loop-p.invariant.listed c.if-input-first.false, c.fill_columns-end.ensures.filled.0)

pub put_prefix-requires : goal.put_prefix-requires
put_prefix-requires c =
    let w = wide_lists c.requires.2 (listed_alike c.loop-p.invariant.listed) in
    let (ids, distances, address, bits, routes) = c.fill_columns-end.ensures.others in
    (omega (arith, ap length address), omega (arith, ap length bits), omega (arith, ap length routes))

pub loop-p-preserved : goal.loop-p-preserved
loop-p-preserved c =
    let t = c.loop-p.tables in
    let p = c.loop-p.p in
    let put = c.put_prefix.ensures.put in
    let (end, at, rows) = c.fill_columns-end.ensures.filled in
    let (ids, distances, address, bits, routes) = c.fill_columns-end.ensures.others in
    let network = c.network_at-network.ensures in
    record {
      listed = listed_next c.loop-p.invariant.listed c.loop-p-test.true c.if-input-first.false end at
          (ap (λ (t : Tables). t.address) put ∙ ap₂ (λ (xs : List ℕ) (n : Network). set xs p n.address) address network)
          (ap (λ (t : Tables). t.bits) put ∙ ap₂ (λ (xs : List ℕ) (n : Network). set xs p n.bits) bits network)
          (ap (λ (t : Tables). t.routes) put ∙ ap (λ (xs : List ℕ). set xs p (c.fill_columns-end.result.row - c.loop-p.next.row)) routes)
          (ap (λ (t : Tables). t.rows) put ∙ rows);
      others = (ap (λ (t : Tables). t.ids) put ∙ ids ∙ c.loop-p.invariant.others.0, ap (λ (t : Tables). t.distances) put ∙ distances ∙ c.loop-p.invariant.others.1);
      kept = search rules;
    }

pub returns-clause-put : goal.returns-clause-put
returns-clause-put c = listed_end c.loop-p.invariant.listed c.loop-p-test.false
