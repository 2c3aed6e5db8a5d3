-- A list has at most one bad place.
use Rattle.std.proofs.Common.{◌≡◌, ℕ, List, [], ◌∷◌, ◌++◌, refl, sym, ap, subst, ◌∙◌, append_assoc}
use Rattle.pdq_sql.specs.declared.tokens.Token.{Token}
use Rattle.pdq_sql.specs.Grammar.{IsViable, IsBadPlace}

-- g has f and t at its front
record Begins (f : List Token) (t : Token) (g : List Token) : Type 0 where
  rest : List Token
  whole : g ≡ f ++ t ∷ rest

cons : (x : Token) (f : List Token) (t : Token) (g : List Token) → Begins f t g → Begins (x ∷ f) t (x ∷ g)
cons x f t g b = record { rest = b.rest; whole = ap (λ us. x ∷ us) b.whole }

data Compared (f g : List Token) (t u : Token) : Type 0 where
  same : t ≡ u → Compared f g t u
  shorter : Begins f t g → Compared f g t u
  longer : Begins g u f → Compared f g t u

compared_cons : (x y : Token) (f g : List Token) (t u : Token) → x ≡ y → Compared f g t u → Compared (x ∷ f) (y ∷ g) t u
compared_cons x y f g t u e (same h) = same h
compared_cons x y f g t u e (shorter b) = shorter (rw (← e) (cons x f t g b))
compared_cons x y f g t u e (longer b) = longer (rw (← e) (cons x g u f b))

compared : (f g a b : List Token) (t u : Token) → f ++ t ∷ a ≡ g ++ u ∷ b → Compared f g t u
compared [] [] a b t u e = same cc
compared [] (y ∷ g) a b t u e = shorter (record { rest = g; whole = (let h : t ≡ y = cc in rw h refl) })
compared (x ∷ f) [] a b t u e = longer (record { rest = f; whole = (let h : x ≡ u = cc in rw h refl) })
compared (x ∷ f) (y ∷ g) a b t u e = compared_cons x y f g t u (cc) (compared f g a b t u (cc))

module _ {A : Type 0} (R : List Token → A → Type 0) where
  -- what begins something viable is viable
  front_viable : (f g : List Token) (t : Token) → Begins f t g → IsViable R g → IsViable R (f ++ t ∷ [])
  front_viable f g t b v =
      let e : g ++ v.0 ≡ (f ++ t ∷ []) ++ (b.rest ++ v.0) = ap (λ us. us ++ v.0) b.whole ∙ append_assoc f (t ∷ b.rest) v.0 ∙ sym (append_assoc f (t ∷ []) (b.rest ++ v.0)) in
      (b.rest ++ v.0, v.1, subst (λ us. R us v.1) e v.2)

  pub one_place : (ts : List Token) (p q : ℕ) → IsBadPlace R ts p → IsBadPlace R ts q → p ≡ q
  one_place ts p q x y = go (compared x.front y.front x.back y.back x.token y.token (sym x.whole ∙ y.whole))
    where
      go : Compared x.front y.front x.token y.token → p ≡ q
      go (same e) = x.here ∙ ap (λ (t : Token). t.place) e ∙ sym y.here
      go (shorter b) = absurd (x.stuck (front_viable x.front y.front x.token b y.viable))
      go (longer b) = absurd (y.stuck (front_viable y.front x.front y.token b x.viable))
