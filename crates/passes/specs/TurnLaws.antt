-- One turn of the loops over rows and over sessions.
use Rattle.std.specs.Prelude.{ℕ, ◌+◌, ◌≤◌, ◌<◌, ◌≡◌, refl, Bool, true, false, cond, ◌&&◌, List, [], ◌∷◌, length, eqb}
use Rattle.std.proofs.Common.{zero-le, arith, sym, ap, ap₂, ◌∙◌, subst}
use Rattle.model.specs.Rows.{column}
use Rattle.model.specs.Decision.{Route}
use Rattle.snapshot.specs.Tables.{Columns, Tables}
use Rattle.tables.specs.Judging.{route_at}
use Rattle.policy.specs.Policy.{Clause, Session}
use Rattle.policy.specs.Rewriting.{with_rows}
use Rattle.policy.specs.Passing.{pass}
use Rattle.policy.proofs.PassingLaws.{pass_as}
use Rattle.clauses.specs.declared.Named.{Named}
use Rattle.clauses.specs.Walking.{session_of, session_by, is_session, named_at, behind_clauses, sessions_from}
use Rattle.clauses.specs.WalkingLaws.{sessions_step}
use Rattle.passes.specs.declared.RewriteTables.{RewriteTables}
use Rattle.passes.specs.Passes.{KeepsRewrite, of_row, altered, ruled_row, passed, passed_all, Long}
use Rattle.passes.specs.PassesLaws.{altered_none, altered_skip, altered_next, long_has, long_again, long_less}

-- ---- what is lent stays the same

pub keeps : {a : RewriteTables} → KeepsRewrite a a
keeps = record {
  ids = refl;
  distances = refl;
  address = refl;
  bits = refl;
  routes = refl;
  router = refl;
  asn = refl;
  path = refl;
  origin = refl;
  nid = refl;
  peer = refl;
  preference = refl;
  mark = refl;
  med = refl;
}

pub keeps_on : {a b c : RewriteTables} → KeepsRewrite a b → KeepsRewrite b c → KeepsRewrite a c
keeps_on k l = record {
  ids = l.ids ∙ k.ids;
  distances = l.distances ∙ k.distances;
  address = l.address ∙ k.address;
  bits = l.bits ∙ k.bits;
  routes = l.routes ∙ k.routes;
  router = l.router ∙ k.router;
  asn = l.asn ∙ k.asn;
  path = l.path ∙ k.path;
  origin = l.origin ∙ k.origin;
  nid = l.nid ∙ k.nid;
  peer = l.peer ∙ k.peer;
  preference = l.preference ∙ k.preference;
  mark = l.mark ∙ k.mark;
  med = l.med ∙ k.med;
}

-- ---- a row

module _ (cs : List Clause) (s : Named) (owner : List ℕ) (t : Tables) where
  abbrev f : ℕ → Route → Route
  f q = pass (session_of s cs) (of_row t.address owner q) (of_row t.bits owner q)

  abbrev Here : ℕ → Bool
  Here q = eqb s.router (column t.rows.router q) && eqb s.peer (column t.rows.peer q)

  -- the session went along q rows
  abbrev pub Along : ℕ → Tables → Type 0
  Along q u = u ≡ with_rows t (altered q f t.rows)

  pub along : Along 0 t
  along = sym (ap (with_rows t) (altered_none f t.rows))

  module _ (q : ℕ) {u : Tables} (a : Along q u) where
    -- the next is a row of the columns
    pub along_long : Long (length owner) t.rows → q < length owner → Long (q + 1) u.rows
    along_long long l = subst (λ (w : Tables). Long (q + 1) w.rows) (sym a) (long_again q f t.rows (long_less (omega arith) long))

    -- it was not heard on the session
    pub along_skip : Here q ≡ false → Along (q + 1) u
    along_skip away =
        a ∙ ap (with_rows t) (altered_skip f t.rows q (pass_as (session_of s cs) (of_row t.address owner q) (of_row t.bits owner q) (route_at t.rows q) false away))

    -- it was, and is rewritten
    pub along_next : Long (length owner) t.rows → q < length owner → Here q ≡ true → {v : Tables} {p : ℕ} → p ≡ column owner q
        → v ≡ with_rows u (ruled_row cs s.zero (column u.address p) (column u.bits p) q u.rows) → Along (q + 1) v
    along_next long l here {v} {p} is e =
        let has = long_has long in
        let h = pass_as (session_of s cs) (of_row t.address owner q) (of_row t.bits owner q) (route_at t.rows q) true here in
        e ∙ ap₂ (λ (w : Tables) (k : ℕ). with_rows w (ruled_row cs s.zero (column w.address k) (column w.bits k) q w.rows)) a is
        ∙ ap (with_rows t) (altered_next f t.rows (record { preference = omega (arith, has.preference); mark = omega (arith, has.mark); med = omega (arith, has.med) })
        (session_of s cs) (of_row t.address owner q) (of_row t.bits owner q) h)

-- ---- a session

-- the sessions from a place on are left to pass
pub record Left (bs owner : List ℕ) (t : Tables) (at : ℕ) (u : Tables) : Type 0 where
  pub within : at ≤ length bs
  pub same : passed_all (sessions_from bs at) (of_row t.address owner) (of_row t.bits owner) (length owner) u.rows
      ≡ passed_all (sessions_from bs 0) (of_row t.address owner) (of_row t.bits owner) (length owner) t.rows
  pub others : u ≡ with_rows t u.rows
  pub long : Long (length owner) u.rows

-- the passes of some sessions
abbrev passed_by : List ℕ → Tables → List Session → Columns → Columns
passed_by owner t ss c = passed_all ss (of_row t.address owner) (of_row t.bits owner) (length owner) c

module _ {bs owner : List ℕ} {t : Tables} where
  pub left : Long (length owner) t.rows → Left bs owner t 0 t
  left long = record { within = zero-le; same = refl; others = refl; long = long }

  module _ {at : ℕ} {u : Tables} (l : Left bs owner t at u) where
    -- the sessions from the place on, by whether one stands there
    left_as : {b : Bool} → is_session bs at ≡ b
        → passed_by owner t (cond b (session_by bs (named_at bs at) ∷ sessions_from bs (behind_clauses bs (named_at bs at).first)) []) u.rows ≡ passed_by owner t (sessions_from bs 0) t.rows
    left_as e =
        sym (ap (λ (ss : List Session). passed_by owner t ss u.rows)
        (sessions_step bs at ∙ ap (λ (b : Bool). cond b (session_by bs (named_at bs at) ∷ sessions_from bs (behind_clauses bs (named_at bs at).first)) []) e))
        ∙ l.same

    -- one more passes
    pub left_next : (is_session bs at ≡ true) → {s : Named} {next : ℕ} {v : Tables} → s ≡ named_at bs at → (next ≡ behind_clauses bs s.first) × (next ≤ length bs)
        → v ≡ with_rows u (passed (session_by bs s) (of_row u.address owner) (of_row u.bits owner) (length owner) u.rows) → Left bs owner t next v
    left_next e {s} {next} {v} is (to, inside) p =
        let rows : Columns = passed (session_by bs s) (of_row t.address owner) (of_row t.bits owner) (length owner) u.rows in
        let made : v ≡ with_rows t rows =
        p ∙ ap (λ (w : Tables). with_rows w (passed (session_by bs s) (of_row w.address owner) (of_row w.bits owner) (length owner) u.rows)) l.others in
        let made_rows : v.rows ≡ rows = ap (λ (w : Tables). w.rows) made in
        record {
          within = inside;
          same =
              ap₂ (λ (k : ℕ) (c : Columns). passed_by owner t (sessions_from bs k) c) (to ∙ ap (λ (n : Named). behind_clauses bs n.first) is)
              (made_rows ∙ ap (λ (n : Named). passed (session_by bs n) (of_row t.address owner) (of_row t.bits owner) (length owner) u.rows) is)
              ∙ left_as e;
          others = made ∙ ap (with_rows t) (sym made_rows);
          long = subst (Long (length owner)) (sym made_rows) (long_again (length owner) (λ q. pass (session_by bs s) (of_row t.address owner q) (of_row t.bits owner q)) u.rows l.long);
        }

    -- no session stands there
    pub left_stop : is_session bs at ≡ false → u ≡ with_rows t (passed_by owner t (sessions_from bs 0) t.rows)
    left_stop e = l.others ∙ ap (with_rows t) (left_as e)
