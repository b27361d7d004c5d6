-- The solutions of "v at i is: hold at i, or pass at i and v at the next", by sweeps from the last scan back.
-- The least one is pass until hold, the greatest one is pass weak until hold.
use Rattle.std.proofs.Common.{◌≡◌, ℕ, zero, suc, ◌+◌, ◌-◌, ◌<◌, ◌≤◌, Bool, true, false, ◌&&◌, ◌||◌, ◌⊎◌, ◌↔◌, Decides, sym, refl, ap, ◌∙◌, subst, inl, inr, arith}
use Rattle.std.proofs.Math.Decide.{dec_lt, ℕ_discrete}
use Rattle.std.proofs.lemmas.Bool.{both_ways, false≢true, cases_Bool}
use Rattle.std.proofs.lemmas.Bool.Decides.{Decides-or, Decides-and, Decides-like}
use Rattle.semantics.specs.Meaning.{UntilAt, AlwaysAt}
use Rattle.semantics.specs.Solutions.{On, Solution}
use Rattle.semantics.proofs.Shifts.{Shift, until_shift, weak_shift}

-- a test decides whether it is true
pub decides_itself : (b : Bool) → Decides b (b ≡ true)
decides_itself b = (λ e. e, λ e. e)

module _ (A B : ℕ → Type 0) where
  pub until_now : (i : ℕ) → B i → UntilAt A B i
  until_now i b = (i, omega arith, b, λ k h l. absurd (omega arith))

  pub until_later : (i : ℕ) → A i → UntilAt A B (suc i) → UntilAt A B i
  until_later i a u = (u.0, omega (arith, u.1), u.2, λ k h l. elim (ℕ_discrete i k) [ yes e ↦ subst A e a | no n ↦ u.3 k (omega arith) l ])

  pub until_opens : (i : ℕ) → UntilAt A B i → B i ⊎ (A i × UntilAt A B (suc i))
  until_opens i u = elim (ℕ_discrete u.0 i) [
    | yes e ↦ inl (subst B e u.2)
    | no n ↦ inr (u.3 i (omega arith) (omega (arith, u.1)), (u.0, omega (arith, u.1), u.2, λ k h l. u.3 k (omega arith) l))
  ]

module _ (hold pass : ℕ → Bool) where
  abbrev Passes : ℕ → Type 0
  Passes = On pass

  abbrev Hits : ℕ → Type 0
  Hits = On hold

  abbrev V : Bool → ℕ → Type 0
  V = Solution hold pass

  always_each : (i : ℕ) → AlwaysAt Passes i → (k : ℕ) → i ≤ k → pass k ≡ true
  always_each i f k h = elim (cases_Bool (pass k)) [ inl t ↦ t | inr e ↦ absurd (f (k, h, (λ t. both_ways (pass k) e t), λ j a b. tt)) ]

  each_always : (i : ℕ) → ((k : ℕ) → i ≤ k → pass k ≡ true) → AlwaysAt Passes i
  each_always i g u = u.2 (g u.0 u.1)

  Opens : (ℕ → Type 0) → ℕ → Type 0
  Opens X i = X i ↔ (Hits i ⊎ (Passes i × X (suc i)))

  solution_opens : (g : Bool) (i : ℕ) → Opens (V g) i
  unfolding Opens
  solution_opens false i = (until_opens Passes Hits i, elim [ inl h ↦ until_now Passes Hits i h | inr q ↦ until_later Passes Hits i q.0 q.1 ])
  solution_opens true i = (
    elim [
      | inl u ↦ elim (until_opens Passes Hits i u) [ inl h ↦ inl h | inr q ↦ inr (q.0, inl q.1) ]
      | inr f ↦ inr (always_each i f i (omega arith), inr (each_always (suc i) (λ k h. always_each i f k (omega arith))))
    ],
    elim [
      | inl h ↦ inl (until_now Passes Hits i h)
      | inr q ↦ elim q.1 [
        | inl u ↦ inl (until_later Passes Hits i q.0 u)
        | inr f ↦ inr (each_always i (λ k h. elim (ℕ_discrete i k) [ yes e ↦ subst Passes e q.0 | no n ↦ always_each (suc i) f k (omega arith) ]))
      ]
    ],
  )

  opens_decides : (X : ℕ → Type 0) (i : ℕ) (c : Bool) → Opens X i → Decides c (X (suc i)) → Decides (hold i || (pass i && c)) (X i)
  unfolding Opens
  opens_decides X i c o d =
      Decides-like (hold i || (pass i && c)) o.1 o.0
      (Decides-or (hold i) (pass i && c) (decides_itself (hold i)) (Decides-and (pass i) c (decides_itself (pass i)) d))

  -- one scan back
  pub solution_back : (g : Bool) (i : ℕ) (c : Bool) → Decides c (V g (suc i)) → Decides (hold i || (pass i && c)) (V g i)
  solution_back g i c d = opens_decides (V g) i c (solution_opens g i) d

  -- what is known from i up to n, if g is taken for what comes from n on
  abbrev pub HitBefore : ℕ → ℕ → Type 0
  HitBefore n i = (m : ℕ) × (i ≤ m) × (m < n) × Hits m × ((k : ℕ) → i ≤ k → k < m → pass k ≡ true)

  abbrev pub Reached : Bool → ℕ → ℕ → Type 0
  Reached g n i = HitBefore n i ⊎ ((g ≡ true) × ((k : ℕ) → i ≤ k → k < n → pass k ≡ true))

  reached_opens : (g : Bool) (n i : ℕ) → i < n → Opens (Reached g n) i
  unfolding Opens
  reached_opens g n i lt = (
    elim [
      | inl w ↦ elim (ℕ_discrete w.0 i) [
        | yes e ↦ inl (subst Hits e w.3)
        | no z ↦ inr (w.4 i (omega arith) (omega (arith, w.1)), inl (w.0, omega (arith, w.1), w.2, w.3, λ k h l. w.4 k (omega arith) l))
      ]
      | inr q ↦ inr (q.1 i (omega arith) lt, inr (q.0, λ k h l. q.1 k (omega arith) l))
    ],
    elim [
      | inl h ↦ inl (i, omega arith, lt, h, λ k a b. absurd (omega arith))
      | inr q ↦ elim q.1 [
        | inl w ↦ inl (w.0, omega (arith, w.1), w.2, w.3, λ k h l. elim (ℕ_discrete i k) [ yes e ↦ subst Passes e q.0 | no z ↦ w.4 k (omega arith) l ])
        | inr r ↦ inr (r.0, λ k h l. elim (ℕ_discrete i k) [ yes e ↦ subst Passes e q.0 | no z ↦ r.1 k (omega arith) l ])
      ]
    ],
  )

  pub reached_back : (g : Bool) (n i : ℕ) (c : Bool) → i < n → Decides c (Reached g n (suc i)) → Decides (hold i || (pass i && c)) (Reached g n i)
  reached_back g n i c lt d = opens_decides (Reached g n) i c (reached_opens g n i lt) d

  -- over a loop from s to n
  module _ (n s : ℕ) (inside : s < n) (hold_again : (k : ℕ) → s ≤ k → hold (k + (n - s)) ≡ hold k) (pass_again : (k : ℕ) → s ≤ k → pass (k + (n - s)) ≡ pass k) where
    earlier : (x : ℕ → Bool) → ((k : ℕ) → s ≤ k → x (k + (n - s)) ≡ x k) → (k : ℕ) → n ≤ k → x (k - (n - s)) ≡ x k
    earlier x again k h = let e : k - (n - s) + (n - s) ≡ k = omega arith in sym (again (k - (n - s)) (omega arith)) ∙ ap x e

    -- a hit that is reached at all is reached within one turn of the loop
    one_turn : (f j : ℕ) → j < f → s ≤ j → hold j ≡ true → ((k : ℕ) → s ≤ k → k < j → pass k ≡ true) → HitBefore n s
    one_turn zero j lt h t q = absurd (omega arith)
    one_turn (suc f) j lt h t q = elim (dec_lt j n) [
      | yes l ↦ (j, h, l, t, q)
      | no l ↦ one_turn f (j - (n - s)) (omega arith) (omega arith) (earlier hold hold_again j (omega arith) ∙ t) (λ k a b. q k a (omega arith))
    ]

    -- what passes through one turn of the loop passes for ever
    every_turn : ((k : ℕ) → s ≤ k → k < n → pass k ≡ true) → (f k : ℕ) → k < f → s ≤ k → pass k ≡ true
    every_turn q zero k lt h = absurd (omega arith)
    every_turn q (suc f) k lt h = elim (dec_lt k n) [
      | yes l ↦ q k h l
      | no l ↦ sym (earlier pass pass_again k (omega arith)) ∙ every_turn q f (k - (n - s)) (omega arith) (omega arith)
    ]

    until_turn : UntilAt Passes Hits s → HitBefore n s
    until_turn u = one_turn (suc u.0) u.0 (omega arith) u.1 u.2 u.3

    turn_until : HitBefore n s → UntilAt Passes Hits s
    turn_until w = (w.0, w.1, w.3, w.4)

    reached_solution : (g : Bool) → Reached g n s ↔ V g s
    reached_solution false = (elim [ inl w ↦ turn_until w | inr q ↦ absurd (false≢true q.0) ], λ u. inl (until_turn u))
    reached_solution true = (
      elim [ inl w ↦ inl (turn_until w) | inr q ↦ inr (each_always s (λ k h. every_turn q.1 (suc k) k (omega arith) h)) ],
      elim [ inl u ↦ inl (until_turn u) | inr f ↦ inr (refl, λ k h l. always_each s f k h) ],
    )

    solution_again : (g : Bool) → V g s ↔ V g n
    solution_again g = by g
      where
        round : (x : ℕ → Bool) → ((k : ℕ) → s ≤ k → x (k + (n - s)) ≡ x k) → Shift (λ k. x k ≡ true) s (λ k. x k ≡ true) n
        round x again k =
            let e : s + k + (n - s) ≡ n + k = omega arith in
            let q : x (n + k) ≡ x (s + k) = ap x (sym e) ∙ again (s + k) (omega arith) in
            (λ t. q ∙ t, λ t. sym q ∙ t)

        by : (g : Bool) → V g s ↔ V g n
        by false = until_shift Passes Hits Passes Hits s n (round pass pass_again) (round hold hold_again)
        by true = weak_shift Passes Hits Passes Hits s n (round pass pass_again) (round hold hold_again)

    -- a first sweep from n back to s tells what a second one may begin with at n
    pub first_sweep : (g c : Bool) → Decides c (Reached g n s) → Decides c (V g n)
    first_sweep g c d = Decides-like c (λ x. (solution_again g).0 ((reached_solution g).0 x)) (λ x. (reached_solution g).1 ((solution_again g).1 x)) d
