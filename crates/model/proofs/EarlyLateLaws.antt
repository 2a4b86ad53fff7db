-- Stable assignments and calm states of the contest are the same thing: the standings of a stable assignment are calm, and what a
-- calm state says to hold is stable, with the state as its standings.
use Rattle.std.specs.Prelude.{ℕ, ◌≤◌, ◌<◌, ◌≡◌, ◌⊎◌, Bool, ◌&&◌, not, List, [], T, eqb, ltb, length, get_or}
use Rattle.std.proofs.Common.{le_of_eq, arith, sym, ap, subst, ◌∙◌, inl, inr, eqb→eq, lt→ltb, eqb-true}
use Rattle.std.proofs.Math.Path.{fun_ext}
use Rattle.std.proofs.Math.Bool.{and_comm}
use Rattle.std.proofs.Math.Dec.{eqb_refl}
use Rattle.model.specs.Rows.{keep, some, count, table}
use Rattle.model.proofs.RowLaws.{by, In, Some, in_keep, keep_in, keep_keep, some_kept, count_kept, and_left, and_right, and_both, not_some, none_some, eq→eqb}
use Rattle.model.proofs.RowLaws.{nowhere, member_or_empty, first_cases, count_length, table_at, table_length, table_same}
use Rattle.model.specs.Decision.{Mesh, none, all, metric, beats, unbeaten, own_of, preferred, decided, choice}
use Rattle.model.proofs.DecisionLaws.{beats_is, owned, First, picks_preferred, picks_unbeaten, last_own, choice_decided, decided_in, not_none, not_past}
use Rattle.model.specs.Stability.{Sound, available, Stable, contenders, before, standing, standings, Between}
use Rattle.model.proofs.StabilityLaws.{preferred_all, contender_preferred, contender_own, contender_free, standing_in, standing_out, standing_end, standing_le, standing_one, standing_pin}
use Rattle.model.proofs.StabilityLaws.{available_all, available_cases, available_own, available_held, available_same, preferred_into, preferred_from, decided_free, decided_contender, anchor, held_contender}
use Rattle.model.specs.Contest.{least_or, end, held_items, first_free, Calm, beats_own_by, contending, place_of, contest, at_place, holding, earliest, latest, early, late}
use Rattle.model.proofs.LeastLaws.{least_or_at, least_or_some}
use Rattle.model.proofs.ContestLaws.{is_held_lem, held_is, calm_at, Fair, earliest_calm, latest_calm, earliest_first, latest_last}

module _ (M : Mesh) where
  -- ---- the items of the contest are the contenders

  -- a router's items are its contenders, in the same order
  pub contenders_items : (r : ℕ) → keep (own_of M r) (contending M) ≡ contenders M r
  contenders_items r =
      let rows = preferred M (all M) in
      let free : ℕ → Bool = λ q. not (some (λ p. beats_own_by M.router M.asn (metric M) p q) rows) in
      let own = own_of M r in
      let free' : ℕ → Bool = λ q. not (some (λ p. beats M p q) (keep own rows)) in
      keep_keep own free rows
      ∙ ap (λ (t : ℕ → Bool). keep t rows) (fun_ext λ q. and_comm (free q) (own q) ∙ by (own q)
      (λ e. let same : M.router q ≡ r = eqb-true (M.router q) r e in rw (same, some_kept own (λ p. beats M p q) rows))
      (λ e. simp e))
      ∙ sym (keep_keep free' own rows)

  pub item : (r : ℕ) {q : ℕ} → In q (contenders M r) → In q (contending M)
  item r {q} m = (keep_in (own_of M r) (contending M) (subst (In q) (sym (contenders_items r)) m)).0

  pub item_contender : {q : ℕ} → In q (contending M) → In q (contenders M (M.router q))
  item_contender {q} m = subst (In q) (contenders_items (M.router q)) (in_keep (own_of M (M.router q)) (contending M) m (eqb_refl (M.router q)))

  -- a contender's place is its standing
  pub place_standing : (r : ℕ) {q : ℕ} → In q (contenders M r) → place_of M q ≡ standing M r q
  place_standing r {q} m =
      ap (λ (o : ℕ). count (λ p. eqb (M.router p) o && before M p q) (contending M)) (contender_own M r m)
      ∙ sym (count_kept (own_of M r) (λ p. before M p q) (contending M))
      ∙ ap (count (λ p. before M p q)) (contenders_items r)
      ∙ sym (standing_in M r m)

  pub end_length : (r : ℕ) → end (contest M) r ≡ length (contenders M r)
  end_length r = count_length (λ q. eqb (M.router q) r) (contending M) ∙ ap length (contenders_items r)

  -- ---- what the first free place is the least of

  abbrev pub free : List ℕ → ℕ → List ℕ
  free seen r = keep (λ q. own_of M r q && not (some (λ p. beats M p q) seen)) (contending M)

  pub in_free : (seen : List ℕ) (r : ℕ) {q : ℕ} → In q (contenders M r) → ((p : ℕ) → In p seen → T (beats M p q) → ⊥) → In q (free seen r)
  in_free seen r {q} m f = in_keep (λ q. own_of M r q && not (some (λ p. beats M p q) seen)) (contending M) (item r m)
      (and_both (eqb (M.router q) r) (not (some (λ p. beats M p q) seen)) (eq→eqb (contender_own M r m)) (not_some (λ p. beats M p q) seen f))

  free_test : (seen : List ℕ) (r : ℕ) {q : ℕ} → In q (free seen r) → In q (contending M) × T (eqb (M.router q) r && not (some (λ p. beats M p q) seen))
  free_test seen r m = keep_in (λ q. own_of M r q && not (some (λ p. beats M p q) seen)) (contending M) m

  pub free_own : (seen : List ℕ) (r : ℕ) {q : ℕ} → In q (free seen r) → M.router q ≡ r
  free_own seen r {q} m = eqb→eq (M.router q) r (and_left (eqb (M.router q) r) (not (some (λ p. beats M p q) seen)) (free_test seen r m).1)

  pub free_contender : (seen : List ℕ) (r : ℕ) {q : ℕ} → In q (free seen r) → In q (contenders M r)
  free_contender seen r {q} m = subst (λ (o : ℕ). In q (contenders M o)) (free_own seen r m) (item_contender (free_test seen r m).0)

  pub free_unbeaten : (seen : List ℕ) (r : ℕ) {q p : ℕ} → In q (free seen r) → In p seen → T (beats M p q) → ⊥
  free_unbeaten seen r {q} m n = none_some (λ p. beats M p q) seen (and_right (eqb (M.router q) r) (not (some (λ p. beats M p q) seen)) (free_test seen r m).1) n

  pub free_standing : (seen : List ℕ) (r : ℕ) {q : ℕ} → In q (free seen r) → (contest M).place q ≡ standing M r q
  free_standing seen r m = place_standing r (free_contender seen r m)

  -- `seen` lists the rows that steps 1 to 3 leave and their owners hold, and there is one where those steps leave any
  pub record Announced (held seen : List ℕ) : Type 0 where
    pub left : {p : ℕ} → In p seen → In p (preferred M (all M))
    pub holds : {p : ℕ} → In p seen → get_or held (M.router p) none ≡ p
    pub listed : {p : ℕ} → In p (preferred M (all M)) → get_or held (M.router p) none ≡ p → In p seen
    pub any : {s : ℕ} → In s (preferred M (all M)) → Some (λ p. Unit {0}) seen

-- ---- what r chooses stands at the first free place
module _ (M : Mesh) (sound : Sound M) (held seen : List ℕ) (A : Announced M held seen) (r : ℕ) where
  abbrev chosen : ℕ
  chosen = choice M r (available M held r)

  seen_available : {p : ℕ} → In p seen → In p (available M held r)
  seen_available m = available_held M held r (preferred_all M (A.left m)) (A.holds m)

  -- an own row that is chosen is free
  pub chosen_free : In chosen (all M) → M.router chosen ≡ r → In chosen (free M seen r)
  chosen_free m e = go (first_cases (decided M r (available M held r)) none) (A.any ((picks_preferred M).any (all M) m).member)
    where
      go : In chosen (decided M r (available M held r)) ⊎ (chosen ≡ none) → Some (λ p. Unit {0}) seen → In chosen (free M seen r)
      go (inl d) w = in_free M seen r
          (decided_contender M held r (seen_available w.member) (A.left w.member) d e)
          (λ p n. decided_free M held r (seen_available w.member) (A.left w.member) d (seen_available n) (A.left n))
      go (inr z) w = absurd (not_none M sound m z)

  -- where a row is free, an own row is chosen, and none before that row
  pub free_first : {q : ℕ} → In q (free M seen r) → In chosen (all M) × First M r chosen q
  free_first {q} m = (available_all M held r chosen (decided_in M r rows d), last_own M r (unbeaten M (preferred M rows)) d u own)
    where
      rows : List ℕ
      rows = available M held r

      own : M.router q ≡ r
      own = free_own M seen r m

      s : In q (preferred M (all M))
      s = contender_preferred M r (free_contender M seen r m)

      a : In q rows
      a = available_own M held r (preferred_all M s) own

      d : In chosen (decided M r rows)
      d = choice_decided M r rows a

      clear : (p : ℕ) → In p (preferred M rows) → T (beats M p q) → ⊥
      clear p n = elim (available_cases M held r ((picks_preferred M).from rows n)) [
        | inl o ↦ contender_free M r (free_contender M seen r m) (preferred_from M held r a s n) o
        | inr h ↦ free_unbeaten M seen r m (A.listed (preferred_from M held r a s n) h)
      ]

      u : In q (unbeaten M (preferred M rows))
      u = (picks_unbeaten M).into (preferred M rows) (preferred_into M held r a s) clear

  pub chosen_standing : standing M r chosen ≡ first_free (contest M) seen r
  chosen_standing = go (member_or_empty (free M seen r))
    where
      go : Some (λ q. Unit {0}) (free M seen r) ⊎ (free M seen r ≡ []) → standing M r chosen ≡ first_free (contest M) seen r
      go (inl w) = sym (least_or_at (end (contest M) r) (contest M).place (free M seen r) c
          (omega (arith, free_standing M seen r c, standing_end M r (free_contender M seen r c), end_length M r))
          (λ q n. omega (arith, free_standing M seen r c, free_standing M seen r n, standing_le M r (free_contender M seen r c) (free_contender M seen r n) (free_first n).1))
          ∙ free_standing M seen r c)
        where
          c : In chosen (free M seen r)
          c = chosen_free (free_first w.member).0 (free_first w.member).1.own
      go (inr e) = standing_out M r (λ c. nowhere (subst (In chosen) e (chosen_free (preferred_all M (contender_preferred M r c)) (contender_own M r c))))
          ∙ sym (end_length M r) ∙ ap (least_or (end (contest M) r) (contest M).place) (sym e)

-- ---- a state and the items that stand at its places

module _ (M : Mesh) (x : List ℕ) where
  pub in_held : {q : ℕ} → In q (contenders M (M.router q)) → standing M (M.router q) q ≡ get_or x (M.router q) 0 → In q (held_items (contest M) x)
  in_held {q} m e = is_held_lem (contest M) x q (item M (M.router q) m) (place_standing M (M.router q) m ∙ e)

  pub held_contends : {q : ℕ} → In q (held_items (contest M) x) → In q (contenders M (M.router q))
  held_contends {q} m = item_contender M (held_is (contest M) x q m).0

  pub held_place : {q : ℕ} → In q (held_items (contest M) x) → standing M (M.router q) q ≡ get_or x (M.router q) 0
  held_place {q} m = sym (place_standing M (M.router q) (held_contends m)) ∙ (held_is (contest M) x q m).1

module _ (M : Mesh) (sound : Sound M) where
  -- ---- the standings of a stable assignment are calm

  pub stable_announced : (held : List ℕ) → Stable M held → Announced M held (held_items (contest M) (standings M held))
  stable_announced held st = record {
    left = λ {p} m. contender_preferred M (M.router p) (held_contends M x m);
    holds = λ {p} m. sym (standing_pin M sound (M.router p) (held_contends M x m) (held_place M x m ∙ place p (preferred_all M (contender_preferred M (M.router p) (held_contends M x m)))));
    listed = λ {p} m e. listed p m e;
    any = λ {s} m. (let w = anchor M sound held st m in record { row = w.row; member = listed w.row w.member w.passes; passes = tt });
  }
    where
      x : List ℕ
      x = standings M held

      place : (p : ℕ) → In p (all M) → get_or x (M.router p) 0 ≡ standing M (M.router p) (get_or held (M.router p) none)
      place p m = table_at (λ r. standing M r (get_or held r none)) 0 _ _ (owned M sound m)

      listed : (p : ℕ) → In p (preferred M (all M)) → get_or held (M.router p) none ≡ p → In p (held_items (contest M) x)
      listed p m e = in_held M x (held_contender M sound held st (preferred_all M m) e)
          (ap (standing M (M.router p)) (sym e) ∙ sym (place p (preferred_all M m)))

  pub stable_calm : (held : List ℕ) → Stable M held → Calm (contest M) (standings M held)
  stable_calm held st = table_same (λ r. standing M r (get_or held r none)) (first_free (contest M) (held_items (contest M) (standings M held))) M.routers
      (λ r lt. ap (standing M r) (st.chosen r lt) ∙ chosen_standing M sound held (held_items (contest M) (standings M held)) (stable_announced held st) r)

  -- ---- what a calm state says to hold is stable

  module _ (x : List ℕ) where
    abbrev pub placed : ℕ → List ℕ
    placed r = keep (λ q. eqb (standing M r q) (get_or x r 0)) (contenders M r)

    pub at_place_lem : (r : ℕ) {p : ℕ} → In p (contenders M r) → standing M r p ≡ get_or x r 0 → at_place M x r ≡ p
    at_place_lem r {p} m e = least_or_at none (λ q. q) (placed r) (in_keep (λ q. eqb (standing M r q) (get_or x r 0)) (contenders M r) m (eq→eqb e))
        (not_past M sound (preferred_all M (contender_preferred M r m))) same
      where
        same : (q : ℕ) → In q (placed r) → p ≤ q
        same q n = let k = keep_in (λ q. eqb (standing M r q) (get_or x r 0)) (contenders M r) n in
            le_of_eq (standing_one M sound r m k.0 (e ∙ sym (eqb→eq (standing M r q) (get_or x r 0) k.1)))

    pub place_at : (r : ℕ) {p : ℕ} → In p (all M) → at_place M x r ≡ p → In p (contenders M r) × (standing M r p ≡ get_or x r 0)
    place_at r {p} m e = go (member_or_empty (placed r))
      where
        go : Some (λ q. Unit {0}) (placed r) ⊎ (placed r ≡ []) → In p (contenders M r) × (standing M r p ≡ get_or x r 0)
        go (inl w) = subst (λ (z : ℕ). In z (contenders M r) × (standing M r z ≡ get_or x r 0)) (sym (at_place_lem r k.0 s) ∙ e) (k.0, s)
          where
            k : In w.row (contenders M r) × T (eqb (standing M r w.row) (get_or x r 0))
            k = keep_in (λ q. eqb (standing M r q) (get_or x r 0)) (contenders M r) w.member

            s : standing M r w.row ≡ get_or x r 0
            s = eqb→eq (standing M r w.row) (get_or x r 0) k.1
        go (inr z) = absurd (not_none M sound m (sym e ∙ ap (least_or none (λ q. q)) z))

    abbrev pub placed_rows : List ℕ
    placed_rows = table M.routers (at_place M x)

    module _ (c : Calm (contest M) x) where
      -- something is held where steps 1 to 3 leave anything
      calm_any : {s : ℕ} → In s (preferred M (all M)) → Some (λ p. Unit {0}) (held_items (contest M) x)
      calm_any {s} m = go (member_or_empty (held_items (contest M) x))
        where
          r : ℕ
          r = M.router s

          seen : List ℕ
          seen = held_items (contest M) x

          go : Some (λ p. Unit {0}) seen ⊎ (seen ≡ []) → Some (λ p. Unit {0}) seen
          go (inl w) = w
          go (inr e) = record {
            row = w.row;
            passes = tt;
            member = in_held M x (subst (λ (o : ℕ). In w.row (contenders M o)) (sym own) contends)
                (subst (λ (o : ℕ). standing M o w.row ≡ get_or x o 0) (sym own) (sym (place_standing M r contends) ∙ sym w.passes ∙ sym (calm_at (contest M) x c r (owned M sound (preferred_all M m)))));
          }
            where
              k : Some (λ q. Unit {0}) (contenders M r)
              k = (picks_unbeaten M).any (keep (own_of M r) (preferred M (all M))) (in_keep (own_of M r) (preferred M (all M)) m (eqb_refl r))

              w : Some (λ q. first_free (contest M) seen r ≡ (contest M).place q) (free M seen r)
              w = least_or_some (end (contest M) r) (contest M).place (free M seen r) (in_free M seen r k.member (λ p n. absurd (nowhere (subst (In p) e n))))
                  (λ q n. omega (arith, free_standing M seen r n, standing_end M r (free_contender M seen r n), end_length M r))

              own : M.router w.row ≡ r
              own = free_own M seen r w.member

              contends : In w.row (contenders M r)
              contends = free_contender M seen r w.member

      pub calm_announced : Announced M placed_rows (held_items (contest M) x)
      calm_announced = record {
        left = λ {p} m. left p m;
        holds = λ {p} m. own p (preferred_all M (left p m)) ∙ at_place_lem (M.router p) (held_contends M x m) (held_place M x m);
        listed = λ {p} m e. (let k = place_at (M.router p) (preferred_all M m) (sym (own p (preferred_all M m)) ∙ e) in in_held M x k.0 k.1);
        any = calm_any;
      }
        where
          left : (p : ℕ) → In p (held_items (contest M) x) → In p (preferred M (all M))
          left p m = contender_preferred M (M.router p) (held_contends M x m)

          own : (p : ℕ) → In p (all M) → get_or placed_rows (M.router p) none ≡ at_place M x (M.router p)
          own p m = table_at (at_place M x) none _ _ (owned M sound m)

      held_at : (r : ℕ) → r < M.routers → get_or (holding M x) r none ≡ choice M r (available M placed_rows r)
      held_at r lt = table_at (λ r. choice M r (available M placed_rows r)) none _ _ lt

      pub standing_at : (r : ℕ) → r < M.routers → standing M r (get_or (holding M x) r none) ≡ get_or x r 0
      standing_at r lt = ap (standing M r) (held_at r lt) ∙ chosen_standing M sound placed_rows (held_items (contest M) x) calm_announced r ∙ sym (calm_at (contest M) x c r lt)

      -- a router that stands at a row of its own chooses it
      pub stands_chosen : (r : ℕ) → r < M.routers → (at_place M x r ≡ none → ⊥) → choice M r (available M placed_rows r) ≡ at_place M x r
      stands_chosen r lt some = go (member_or_empty (placed r))
        where
          go : Some (λ q. Unit {0}) (placed r) ⊎ (placed r ≡ []) → choice M r (available M placed_rows r) ≡ at_place M x r
          go (inl w) =
              let k = keep_in (λ q. eqb (standing M r q) (get_or x r 0)) (contenders M r) w.member in
              let s = eqb→eq (standing M r w.row) (get_or x r 0) k.1 in
              sym (held_at r lt) ∙ sym (standing_pin M sound r k.0 (s ∙ sym (standing_at r lt))) ∙ sym (at_place_lem r k.0 s)
          go (inr z) = absurd (some (ap (least_or none (λ q. q)) z))

      pub calm_stable : Stable M (holding M x)
      calm_stable = record {
        size = table_length M.routers (λ r. choice M r (available M placed_rows r));
        chosen = λ r lt. held_at r lt ∙ ap (choice M r) (available_same M placed_rows (holding M x) into from r);
      }
        where
          into : (q : ℕ) → In q (all M) → get_or placed_rows (M.router q) none ≡ q → get_or (holding M x) (M.router q) none ≡ q
          into q m e =
              let lt = owned M sound m in
              let is = sym (table_at (at_place M x) none _ _ lt) ∙ e in
              held_at (M.router q) lt ∙ stands_chosen (M.router q) lt (λ z. not_none M sound m (sym is ∙ z)) ∙ is

          from : (q : ℕ) → In q (all M) → get_or (holding M x) (M.router q) none ≡ q → get_or placed_rows (M.router q) none ≡ q
          from q m e = table_at (at_place M x) none _ _ lt ∙ at_place_lem o contends (ap (standing M o) (sym e) ∙ standing_at o lt)
            where
              o : ℕ
              o = M.router q

              lt : o < M.routers
              lt = owned M sound m

              is : q ≡ choice M o (available M placed_rows o)
              is = sym e ∙ held_at o lt

              contends : In q (contenders M o)
              contends = subst (λ (z : ℕ). In z (contenders M o)) (sym is)
                  (free_contender M (held_items (contest M) x) o (chosen_free M sound placed_rows (held_items (contest M) x) calm_announced o (subst (λ (z : ℕ). In z (all M)) is m) (ap M.router (sym is))))

  -- ---- between two calm states

  -- With two calm states that every calm state lies between, every stable assignment lies between what the two say to hold.
  pub between : (low high : List ℕ) → Calm (contest M) low → Calm (contest M) high
      → ((x : List ℕ) → Calm (contest M) x → (r : ℕ) → get_or low r 0 ≤ get_or x r 0) → ((x : List ℕ) → Calm (contest M) x → (r : ℕ) → get_or x r 0 ≤ get_or high r 0)
      → Between M (holding M low) (holding M high)
  between low high cl ch below above = record {
    early_stable = calm_stable low cl;
    late_stable = calm_stable high ch;
    low = λ held st r lt. omega (arith, standing_at low cl r lt, below (standings M held) (stable_calm held st) r, table_at (λ r. standing M r (get_or held r none)) 0 _ _ lt);
    high = λ held st r lt. omega (arith, standing_at high ch r lt, above (standings M held) (stable_calm held st) r, table_at (λ r. standing M r (get_or held r none)) 0 _ _ lt);
  }

-- ---- the contest of a sound prefix is fair, so the two states that rounds lead to are such

module _ (M : Mesh) where
  is_beats : (p q : ℕ) → M.asn p ≡ M.asn q → metric M p < metric M q → T (beats M p q)
  is_beats p q e l = and_both (eqb (M.asn p) (M.asn q)) (ltb (metric M p) (metric M q)) (eq→eqb e) (lt→ltb (metric M p) (metric M q) l)

  pub fair : Sound M → Fair (contest M)
  fair sound = record {
    owned = λ q m. owned M sound (preferred_all M (contender_preferred M (M.router q) (item_contender M m)));
    beats_trans = λ a b c i j k s t.
        let u = beats_is M a b s in
        let v = beats_is M b c t in
        is_beats a c (u.0 ∙ v.0) (omega (arith, u.1, v.1));
    metric = metric M;
    grows = λ p q i j t. (beats_is M p q t).1;
  }

  pub early_late : Sound M → Between M (early M) (late M)
  early_late sound =
      let C = contest M in
      let f = fair sound in
      between M sound (earliest C) (latest C) (earliest_calm C f) (latest_calm C f) (earliest_first C f) (latest_last C f)
