use Rattle.std.proofs.Common.{ℕ, ◌≡◌, ◌<◌, List, length, get_or, ap, ap₂, ◌∙◌, arith, rules}
use Rattle.std.specs.List.{zip, enumerate_from}
use Rattle.std.proofs.lemmas.Iterator.{YieldsList-from_slice, YieldsList-from_zip}
use Rattle.std.proofs.lemmas.Iterator.Consumers.{YieldsList-from_enumerate, YieldsList-turn}
use Rattle.std.proofs.lemmas.List.FromFn.{length-enumerate_from, get_or-enumerate_from}
use Rattle.std.proofs.lemmas.List.{length_push}
use Rattle.std.proofs.lemmas.Slice.Zip.{length-zip, get_or-zip}
use Rattle.model.specs.Rows.{column}
use Rattle.model.specs.Decision.{none}
use Rattle.model.proofs.ColumnLaws.{get_or_inside}
use Rattle.lines.specs.Lines.{router_line}
use Rattle.text.specs.TextLaws.{puts_as, lined_next, lined_room}
use Rattle.page.proofs.put_routers.Goals as goal
use Rattle.page.proofs.put_routers.Goals.{In-Some}

-- the n-th of two columns' pairs, with its number
record Turn (xs ys : List ℕ) (n : ℕ) (p : ℕ × (ℕ × ℕ)) : Type 0 where
  number : p.0 ≡ n
  first : p.1.0 ≡ get_or xs n none
  second : p.1.1 ≡ get_or ys n none
  inside : n < length xs

turn : (xs ys : List ℕ) (n : ℕ) (p : ℕ × (ℕ × ℕ)) → length ys ≡ length xs → (n < length (enumerate_from 0 (zip xs ys))) × (p ≡ get_or (enumerate_from 0 (zip xs ys)) n p) → Turn xs ys n p
turn xs ys n p same h =
    let long : n < length (zip xs ys) = omega (arith, h.0, length-enumerate_from 0 (zip xs ys)) in
    let l : n < length xs = omega (arith, length-zip xs ys) in
    let m : n < length ys = omega arith in
    let e = h.1 ∙ get_or-enumerate_from 0 (zip xs ys) n p long in
    let f = ap (λ (q : ℕ × (ℕ × ℕ)). q.1) e ∙ get_or-zip xs ys n p.1 l m in
    record {
      number = omega (arith, ap (λ (q : ℕ × (ℕ × ℕ)). q.0) e);
      first = ap (λ (q : ℕ × ℕ). q.0) f ∙ get_or_inside xs n p.1.0 none l;
      second = ap (λ (q : ℕ × ℕ). q.1) f ∙ get_or_inside ys n p.1.1 none m;
      inside = l;
    }

-- what this turn's pair is
here : (c : In-Some) → Turn c.args.early.now c.args.late.now (length c.loop-r.yielded) (c.in-Some.r, (c.in-Some.first.now, c.in-Some.second.now))
here c =
    let a = c.args in
    let rows = YieldsList-from_enumerate (YieldsList-from_zip (YieldsList-from_slice a.early.now (cc)) (YieldsList-from_slice a.late.now (cc))) (cc) in
    turn a.early.now a.late.now _ _ c.requires.late_len.0 (YieldsList-turn rows c.loop-r.yielded _ c.loop-r.yielded_by _ c.next.new.self _ c.in-Some.is c.next.ensures.steps)

pub put_router-requires-clause-has_room : goal.put_router-requires-clause-has_room
put_router-requires-clause-has_room c =
    lined_room c.loop-r.invariant.2 (here (goal.at.put_router-requires-clause-has_room c).In-Some).inside c.requires.late_len.2

pub loop-r-preserved : goal.loop-r-preserved
loop-r-preserved c =
    let t = here (goal.at.loop-r-preserved c).In-Some in
    let a = c.args in
    let p = c.put_router.ensures in
    let line = puts_as p.puts
    (ap (λ (r : ℕ). router_line a.unsettled (column a.router.now) r c.in-Some.first.now c.in-Some.second.now) t.number
    ∙ ap₂ (router_line a.unsettled (column a.router.now) (length c.loop-r.yielded)) t.first t.second) in
    (search rules, search rules, rw length_push (lined_next c.loop-r.invariant.2 t.inside (record { puts = line; short = p.short })))
