use Rattle.std.proofs.Common.{ℕ, ◌+◌, ◌≡◌, ◌<◌, ◌≤◌, List, length, get_or, take, sym, ap, ap₂, ◌∙◌, arith, rules, get_or-take, length-take-le, ◌-◌}
use Rattle.std.specs.List.{zip}
use Rattle.std.proofs.lemmas.Iterator.{YieldsList-from_slice, YieldsList-from_zip}
use Rattle.std.proofs.lemmas.Iterator.Consumers.{YieldsList-turn}
use Rattle.std.proofs.lemmas.List.{length_push}
use Rattle.std.proofs.lemmas.Slice.Zip.{length-zip, get_or-zip}
use Rattle.model.specs.Rows.{column, start}
use Rattle.model.proofs.RowLaws.{start_first, start_next}
use Rattle.model.proofs.ColumnLaws.{get_or_inside}
use Rattle.model.specs.Columns.{Columns, lent_mesh}
use Rattle.snapshot.specs.Lent.{tables_of}
use Rattle.snapshot.specs.Tables.{Tables}
use Rattle.rows.specs.Lent.{cut}
use Rattle.outlook.specs.Outlook.{whole, Part}
use Rattle.text.specs.TextLaws.{puts_as, lined, lined_next, lined_room}
use Rattle.page.specs.Lent.{decided_text, lent_text, blank}
use Rattle.page.proofs.put_prefixes.Goals as goal
use Rattle.page.proofs.put_prefixes.Goals.{In-Some}

-- the n-th of three columns' triples
record Turn (xs ys zs : List ℕ) (many n : ℕ) (p : (ℕ × ℕ) × ℕ) : Type 0 where
  first : p.0.0 ≡ column xs n
  second : p.0.1 ≡ column ys n
  third : p.1 ≡ column zs n
  inside : n < many

long : (xs ys zs : List ℕ) (many : ℕ) → many ≤ length xs → many ≤ length ys → many ≤ length zs → length (zip (zip (take many xs) ys) zs) ≡ many
long xs ys zs many k l m = omega (arith, length-zip (zip (take many xs) ys) zs, length-zip (take many xs) ys, length-take-le many xs k)

turn : (xs ys zs : List ℕ) (many n : ℕ) (p : (ℕ × ℕ) × ℕ) → many ≤ length xs → many ≤ length ys → many ≤ length zs
    → (n < length (zip (zip (take many xs) ys) zs)) × (p ≡ get_or (zip (zip (take many xs) ys) zs) n p) → Turn xs ys zs many n p
turn xs ys zs many n p k l m h =
    let within : n < many = omega (arith, h.0, long xs ys zs many k l m) in
    let front = length-take-le many xs k in
    let x : n < length (take many xs) = omega arith in
    let y : n < length ys = omega arith in
    let z : n < length zs = omega arith in
    let xy : n < length (zip (take many xs) ys) = omega (arith, length-zip (take many xs) ys) in
    let e = h.1 ∙ get_or-zip (zip (take many xs) ys) zs n p xy z in
    let f = ap (λ (q : (ℕ × ℕ) × ℕ). q.0) e ∙ get_or-zip (take many xs) ys n p.0 x y in
    record {
      first = ap (λ (q : ℕ × ℕ). q.0) f ∙ get_or_inside (take many xs) n p.0.0 0 x ∙ get_or-take many xs n 0 within;
      second = ap (λ (q : ℕ × ℕ). q.1) f ∙ get_or_inside ys n p.0.1 0 y;
      third = ap (λ (q : (ℕ × ℕ) × ℕ). q.1) e ∙ get_or_inside zs n p.1 0 z;
      inside = within;
    }

-- the text of the triple's prefix
text_is : (routers : ℕ) (t : Tables) (n : ℕ) (p : (ℕ × ℕ) × ℕ) (first many : ℕ) {ids distances : List ℕ} {c : Columns}
    → ids ≡ t.ids → distances ≡ t.distances → c ≡ whole t → Turn t.address t.bits t.routes many n p → first ≡ start t.routes n
    → decided_text p.0.0 p.0.1 (lent_mesh routers ids distances (cut first (first + p.1 - first) c)) ≡ lent_text routers t n
text_is routers t n p first many {c = c} i d e here from =
    let same : first + p.1 - first ≡ column t.routes n = omega (arith, here.third) in
    ap₂ (λ (xs ds : List ℕ). decided_text p.0.0 p.0.1 (lent_mesh routers xs ds (cut first (first + p.1 - first) c))) i d
    ∙ ap (λ (x : Columns). decided_text p.0.0 p.0.1 (lent_mesh routers t.ids t.distances (cut first (first + p.1 - first) x))) e
    ∙ ap₂ (λ (address bits : ℕ). decided_text address bits (lent_mesh routers t.ids t.distances (cut first (first + p.1 - first) (whole t)))) here.first here.second
    ∙ ap₂ (λ (from size : ℕ). decided_text (column t.address n) (column t.bits n) (lent_mesh routers t.ids t.distances (cut from size (whole t)))) from same

-- what this turn's triple is
here : (c : In-Some) → Turn c.args.tables.now.address.now c.args.tables.now.bits.now c.args.tables.now.routes.now c.args.prefixes (length c.loop-address.yielded)
    ((c.in-Some.address.now, c.in-Some.bits.now), c.in-Some.many.now)
here c =
    let t = c.args.tables.now in
    let n = c.args.prefixes in
    let b = c.requires.may_be_decided in
    let triples = YieldsList-from_zip (YieldsList-from_zip (YieldsList-from_slice (take n t.address.now) (cc)) (YieldsList-from_slice t.bits.now (cc))) (YieldsList-from_slice t.routes.now (cc)) in
    turn t.address.now t.bits.now t.routes.now n _ _ b.addresses b.lengths b.numbers
    (YieldsList-turn triples c.loop-address.yielded _ c.loop-address.yielded_by _ c.next.new.self _ c.in-Some.is c.next.ensures.steps)

part : (c : In-Some) → Part c.args.routers c.loop-address.first (c.loop-address.first + c.in-Some.many.now) c.args.tables.now.ids.now c.args.tables.now.distances.now (whole (tables_of c.args.tables.now)) blank blank
part c =
    let t = here c in
    let i = c.loop-address.invariant.3 in
    c.requires.may_be_decided.part (length c.loop-address.yielded) c.loop-address.first (c.loop-address.first + c.in-Some.many.now) t.inside i (ap (λ (k : ℕ). c.loop-address.first + k) t.third)

pub loop-address-init : goal.loop-address-init
loop-address-init c = (search rules, search rules, lined, sym (start_first c.args.tables.now.routes.now))

pub overflow_add-last : goal.overflow_add-last
overflow_add-last c = record { fits = omega (arith, (part (goal.at.overflow_add-last c).In-Some).fits) }

pub put_decided-requires : goal.put_decided-requires
put_decided-requires c =
    let w = (goal.at.put_decided-requires c).In-Some in
    let m = c.mesh_of-mesh.ensures in (
      lined_room c.loop-address.invariant.2 (here w).inside c.requires.prefixes_in_bounds,
      rw (m.ids, m.distances, m.routes) (part w),
    )

pub loop-address-preserved : goal.loop-address-preserved
loop-address-preserved c =
    let t = here (goal.at.loop-address-preserved c).In-Some in
    let i = c.loop-address.invariant in
    let a = tables_of c.args.tables.now in
    let n = length c.loop-address.yielded in
    let m = c.mesh_of-mesh.ensures in
    let p = c.put_decided.ensures in
    let text = puts_as p.puts (text_is c.args.routers a n _ c.loop-address.first c.args.prefixes m.ids m.distances m.routes t i.3) in
    (search rules, search rules, rw length_push (lined_next i.2 t.inside (record { puts = text; short = p.short })), rw length_push (omega (arith, i.3, t.third, start_next a.routes n)))
