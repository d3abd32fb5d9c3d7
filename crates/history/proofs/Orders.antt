-- Laws of transactions that stand in an order.
use Rattle.std.proofs.Common.{◌≡◌, ℕ, ◌<◌, ◌⊎◌, List, [], ◌∷◌, ◌++◌, ℤ, sym, refl, ap, ◌∙◌, subst, inl, inr}
use mathlib.Core.Path.{fun_ext}
use mathlib.Core.List.{Memᴰ}
use mathlib.Core.Option.{Option, none, get_or}
use Rattle.history.specs.Transactions.{Transaction}
use Rattle.history.specs.Alone.{nothing_pending, pend, Exact, run_alone}
use Rattle.history.specs.Serial.{replay, AllExact, InOrder}

pub replay-++ : (s : ℕ → ℤ) (xs ys : List Transaction) → replay s (xs ++ ys) ≡ replay (replay s xs) ys
replay-++ s [] ys = refl
replay-++ s (T ∷ xs) ys = replay-++ (run_alone s T) xs ys

pub exact-order-++ : (s : ℕ → ℤ) (xs ys : List Transaction) → AllExact s xs → AllExact (replay s xs) ys → AllExact s (xs ++ ys)
exact-order-++ s [] ys h k = k
exact-order-++ s (T ∷ xs) ys h k = (h.0, exact-order-++ (run_alone s T) xs ys h.1 k)

pub exact_order_left : (s : ℕ → ℤ) (xs ys : List Transaction) → AllExact s (xs ++ ys) → AllExact s xs
exact_order_left s [] ys h = tt
exact_order_left s (T ∷ xs) ys h = (h.0, exact_order_left (run_alone s T) xs ys h.1)

pub exact_order_right : (s : ℕ → ℤ) (xs ys : List Transaction) → AllExact s (xs ++ ys) → AllExact (replay s xs) ys
exact_order_right s [] ys h = h
exact_order_right s (T ∷ xs) ys h = exact_order_right (run_alone s T) xs ys h.1

-- T writes nothing
abbrev pub Silent : Transaction → Type 0
Silent T = (v : ℕ) → pend nothing_pending T.accesses v ≡ none

pub alone_silent : (s : ℕ → ℤ) (T : Transaction) → Silent T → run_alone s T ≡ s
alone_silent s T h = fun_ext (λ v. ap (λ (o : Option ℤ). get_or o (s v)) (h v))

-- what none of them writes keeps its value
pub replay_kept : (s : ℕ → ℤ) (Ts : List Transaction) (v : ℕ) → ((T : Transaction) → Memᴰ T Ts → pend nothing_pending T.accesses v ≡ none) → replay s Ts v ≡ s v
replay_kept s [] v h = refl
replay_kept s (T ∷ Ts) v h =
    replay_kept (run_alone s T) Ts v (λ U m. h U (Memᴰ.tail m)) ∙ ap (λ (o : Option ℤ). get_or o (s v)) (h T (Memᴰ.head refl))

-- a silent one can stand anywhere that it runs exactly
module _ (s : ℕ → ℤ) (xs : List Transaction) (T : Transaction) (ys : List Transaction) (silent : Silent T) where
  pub replay_insert : replay s (xs ++ (T ∷ ys)) ≡ replay s (xs ++ ys)
  replay_insert =
      replay-++ s xs (T ∷ ys) ∙ ap (λ (r : ℕ → ℤ). replay r ys) (alone_silent (replay s xs) T silent) ∙ sym (replay-++ s xs ys)

  pub exact_insert : Exact (replay s xs) nothing_pending T.accesses → AllExact s (xs ++ ys) → AllExact s (xs ++ (T ∷ ys))
  exact_insert e h =
      exact-order-++ s xs (T ∷ ys) (exact_order_left s xs ys h)
      (e, subst (λ (r : ℕ → ℤ). AllExact r ys) (sym (alone_silent (replay s xs) T silent)) (exact_order_right s xs ys h))

pub mem_skip : (U T : Transaction) (xs ys : List Transaction) → Memᴰ U (xs ++ (T ∷ ys)) → (U ≡ T) ⊎ Memᴰ U (xs ++ ys)
mem_skip U T [] ys (Memᴰ.head e) = inl e
mem_skip U T [] ys (Memᴰ.tail m) = inr m
mem_skip U T (S ∷ xs) ys (Memᴰ.head e) = inr (Memᴰ.head e)
mem_skip U T (S ∷ xs) ys (Memᴰ.tail m) = elim (mem_skip U T xs ys m) [ inl q ↦ inl q | inr q ↦ inr (Memᴰ.tail q) ]

pub order_insert : (xs : List Transaction) (T : Transaction) (ys : List Transaction)
    → ((U : Transaction) → Memᴰ U xs → T.last < U.first → ⊥) → ((U : Transaction) → Memᴰ U ys → U.last < T.first → ⊥)
    → InOrder (xs ++ ys) → InOrder (xs ++ (T ∷ ys))
order_insert [] T ys f g h = (g, h)
order_insert (S ∷ xs) T ys f g h =
    (λ U m. go U (mem_skip U T xs ys m), order_insert xs T ys (λ U m. f U (Memᴰ.tail m)) g h.1)
  where
    go : (U : Transaction) → (U ≡ T) ⊎ Memᴰ U (xs ++ ys) → U.last < S.first → ⊥
    go U (inl e) k = f S (Memᴰ.head refl) (subst (λ (X : Transaction). X.last < S.first) e k)
    go U (inr m) k = h.0 U m k

-- two ways to cut one list
pub data Cuts (xs ys cs ds : List Transaction) : Type 0 where
  earlier : (ms : List Transaction) → cs ≡ xs ++ ms → ys ≡ ms ++ ds → Cuts xs ys cs ds
  later : (ms : List Transaction) → xs ≡ cs ++ ms → ds ≡ ms ++ ys → Cuts xs ys cs ds

pub cuts : (xs ys cs ds : List Transaction) → xs ++ ys ≡ cs ++ ds → Cuts xs ys cs ds
cuts [] ys cs ds e = earlier cs refl e
cuts (T ∷ xs) ys [] ds e = later (T ∷ xs) refl (sym e)
cuts (T ∷ xs) ys (U ∷ cs) ds e = go (cuts xs ys cs ds (cc))
  where
    heads : T ≡ U
    heads = cc

    go : Cuts xs ys cs ds → Cuts (T ∷ xs) ys (U ∷ cs) ds
    go (earlier ms p q) = earlier ms (cc) q
    go (later ms p q) = later ms (cc) q
