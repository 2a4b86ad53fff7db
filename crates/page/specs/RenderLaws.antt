-- What is rendered is the page of the bytes given: from reading to tables, from tables to text, and from rounds to early and late.
use Rattle.std.specs.Prelude.{ℕ, ◌+◌, ◌*◌, ◌≤◌, ◌<◌, ◌≡◌, refl, false, not, List, [], ◌∷◌, ◌++◌, map, T, eqb, length, get_or, drop, Result, Ok, Err}
use Rattle.std.proofs.Common.{mul-le-mul_left, arith, sym, ap, ap₂, subst, subst₂, ◌∙◌, lit≤}
use Rattle.std.proofs.lemmas.List.{length-map}
use Rattle.std.proofs.Math.ListN.{get_or-append}
use Rattle.std.proofs.lemmas.List.Edits.{sets, sets-eq}
use Rattle.std.proofs.Math.Pow.{are_bytes}
use Rattle.model.specs.Rows.{keep, span, column, start}
use Rattle.model.proofs.RowLaws.{In, here, there, in_span}
use Rattle.model.specs.Decision.{Mesh, none}
use Rattle.model.specs.Contest.{early, late}
use Rattle.model.proofs.Theorems.{forecast}
use Rattle.model.specs.Columns.{Columns, lent_mesh}
use Rattle.refusal.specs.declared.Refused.{Refused}
use Rattle.snapshot.specs.declared.Counts.{Counts}
use Rattle.snapshot.specs.Limits.{most_prefixes}
use Rattle.snapshot.specs.Ranges.{any_of}
use Rattle.snapshot.specs.Format.{Prefix, Snapshot}
use Rattle.snapshot.specs.Tables.{Tables, short, mesh, Room}
use Rattle.tables.specs.Judging.{Holding}
use Rattle.tables.specs.Theorems.{sound}
use Rattle.rows.specs.Lent.{cut}
use Rattle.outlook.specs.Outlook.{whole}
use Rattle.outlook.specs.OutlookLaws.{part_of, n_is, same_parts, lent, pair}
use Rattle.scan.specs.Scan.{said as read_said}
use Rattle.reader.specs.Read.{read_answer, read_tables}
use Rattle.reader.specs.ReadLaws.{was_refused}
use Rattle.reader.specs.TakenLaws.{taken}
use Rattle.lines.specs.Lines.{widest, heading_line}
use Rattle.text.specs.declared.Sink.{Sink}
use Rattle.text.specs.Text.{each, Puts}
use Rattle.page.specs.Page.{block, prefix_text, snapshot_text, Pages, unread, given, widest_block, widest_page, said, Renders, text}
use Rattle.page.specs.Lent.{decided_text, lent_text, blank, Blocks, lent_page, Ready}

-- texts that agree for each number of a list
pub each_same : (f g : ℕ → List ℕ) (rs : List ℕ) → ((r : ℕ) → In r rs → f r ≡ g r) → each f rs ≡ each g rs
each_same f g [] h = refl
each_same f g (r ∷ rs) h = ap₂ {C = List ℕ} ◌++◌ (h r (here refl)) (each_same f g rs (λ q m. h q (there m)))

-- ---- tables that hold a snapshot

module _ (counts : Counts) (t : Tables) (roomy : Room t) (holding : Holding counts t) where
  few_prefixes_lem : counts.prefixes ≤ most_prefixes
  few_prefixes_lem = omega (arith, ap (λ (c : Counts). c.prefixes) holding.held.0, holding.valid.few_prefixes)

  pub blocks : Blocks counts.routers counts.prefixes t
  blocks = record {
    few = few_prefixes_lem;
    addresses = omega (arith, few_prefixes_lem, roomy.prefixes.address);
    lengths = omega (arith, few_prefixes_lem, roomy.prefixes.bits);
    numbers = omega (arith, few_prefixes_lem, roomy.prefixes.routes);
    part = λ p first end l f e. part_of counts t p roomy holding l f e blank blank (lit≤ tt) (lit≤ tt);
  }

  abbrev s : Snapshot
  s = holding.snapshot

  -- an entry of a table into which these values were filled
  entry : (xs vals : List ℕ) → sets xs 0 vals ≡ xs → length vals ≤ length xs → (p : ℕ) → p < length vals → column xs p ≡ get_or vals p 0
  entry xs vals e l p h =
      ap (λ (z : List ℕ). get_or z p 0) (sym e ∙ sets-eq vals xs 0 (omega arith)) ∙ get_or-append vals (drop (0 + length vals) xs) 0 p h

  -- the prefix of a number with the rows to which rounds lead
  abbrev decided_of : ℕ → List ℕ
  decided_of p = prefix_text s p (early (mesh s p)) (late (mesh s p))

  -- the text of a prefix of the tables is that of the prefix of the snapshot
  prefix_text_lem : (p : ℕ) → p < counts.prefixes
      → lent_text counts.routers t p ≡ decided_of p
  prefix_text_lem p l =
      ap₂ (λ (a b : ℕ). decided_text a b (lent_mesh counts.routers t.ids t.distances (cut (start t.routes p) (column t.routes p) (whole t))))
      (entry t.address addresses (ap (λ (u : Tables). u.address) holding.held.1) (omega (arith, n (λ q. q.address), few, roomy.prefixes.address)) p (omega (arith, n (λ q. q.address), below)))
      (entry t.bits lengths (ap (λ (u : Tables). u.bits) holding.held.1) (omega (arith, n (λ q. q.bits), few, roomy.prefixes.bits)) p (omega (arith, n (λ q. q.bits), below)))
      ∙ ap (λ (c : Columns). decided_text (get_or addresses p 0) (get_or lengths p 0) (lent_mesh counts.routers t.ids t.distances c)) (same_parts counts t p roomy holding l)
      ∙ ap (λ (k : ℕ). rows k (early L) (late L)) (n_is counts t p roomy holding l)
      ∙ ap₂ (rows (length s.ids)) (pair counts t p roomy holding l).0 (pair counts t p roomy holding l).1
    where
      below : p < length s.prefixes
      below = omega (arith, ap (λ (c : Counts). c.prefixes) holding.held.0)

      few : length s.prefixes ≤ most_prefixes
      few = holding.valid.few_prefixes

      n : (f : Prefix → ℕ) → length (map f s.prefixes) ≡ length s.prefixes
      n f = length-map s.prefixes f

      addresses : List ℕ
      addresses = map (λ q. q.address) s.prefixes

      lengths : List ℕ
      lengths = map (λ q. q.bits) s.prefixes

      L : Mesh
      L = lent roomy holding.valid holding.held p below

      -- a block by the number of routers and the rows
      rows : ℕ → List ℕ → List ℕ → List ℕ
      rows k e l = block (get_or addresses p 0) (get_or lengths p 0) (length (keep (λ r. not (eqb (get_or e r none) (get_or l r none))) (span 0 k))) (mesh s p).router k e l

  -- the text of the tables is the text of the snapshot
  pub tables_text : heading_line counts.routers counts.prefixes ++ each (lent_text counts.routers t) (span 0 counts.prefixes)
      ≡ snapshot_text s (λ p. early (mesh s p)) (λ p. late (mesh s p))
  tables_text =
      ap (λ (x : List ℕ). heading_line counts.routers counts.prefixes ++ x)
      (each_same (lent_text counts.routers t) decided_of (span 0 counts.prefixes) (λ p m. prefix_text_lem p (omega (arith, in_span 0 counts.prefixes m))))
      ∙ ap (λ (c : Counts). heading_line c.routers c.prefixes ++ each decided_of (span 0 c.prefixes)) holding.held.0

-- ---- what reading left

module _ (bs : List ℕ) (t : Tables) (enough : any_of (short t) ≡ false) (bytes : T (are_bytes bs)) where
  -- the prefixes of what was accepted may be decided
  pub ready : (r : Result Counts Refused) (u : Tables) (n : ℕ) → read_said r ≡ read_answer bs t → u ≡ read_tables bs t → widest_page ≤ n → Ready r u n
  ready r u n e f l = record {
    blocks = λ c is. let g = taken bs t bytes is e f in blocks c u g.room g.holding;
    out_long = l;
  }

  -- the page of what was read is the page of the bytes
  pub page_is : (r : Result Counts Refused) (u : Tables) → read_said r ≡ read_answer bs t → u ≡ read_tables bs t → Pages bs (lent_page r u)
  page_is (Ok c) u e f =
      let g = taken bs t bytes refl e f in
      let s = g.holding.snapshot in
      subst (Pages bs) (sym (tables_text c u g.room g.holding))
      (given s g.is_read (λ p. early (mesh s p)) (λ p. late (mesh s p)) (λ p below. forecast (mesh s p) (sound g.holding.valid p below)))
  page_is (Err r) u e f = unread r.refusal r.place (was_refused bs t enough refl e)

-- ---- what is answered

-- a buffer for any page has room for one with so many prefixes
pub page_room : {prefixes n : ℕ} → prefixes ≤ most_prefixes → widest_page ≤ n → widest + widest_block * prefixes ≤ n
page_room {prefixes} few l =
    let k : widest_block * prefixes ≤ widest_block * most_prefixes = mul-le-mul_left widest_block few in
    omega arith

-- a page that was put by a sink over a buffer, from its start on
pub rendered_text : (bs : List ℕ) {page out left : List ℕ} {before after : Sink} → before.at ≡ 0 → before.out.now ≡ out → widest_page ≤ length out
    → Pages bs page → Puts before after page → left ≡ after.out.now → Renders bs out (said (Ok after.at)) left
rendered_text bs {page} {out} {after = after} start over l made p e =
    let many : after.at ≡ length page = omega (arith, p.place) in
    let left_is = e ∙ p.bytes ∙ ap₂ (λ (x : List ℕ) (k : ℕ). sets x k page) over start in
    subst₂ (λ (n : ℕ) (x : List ℕ). Renders bs out (said (Ok n)) x) (sym many) (sym left_is) (text l page made)
