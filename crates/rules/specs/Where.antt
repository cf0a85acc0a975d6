-- By a condition: it holds, and P, or it does not, and Q.
pub data Where (Good P Q : Type 0) : Type 0 where
  good : Good → P → Where Good P Q
  bad : ¬ Good → Q → Where Good P Q

module _ {Good P Q : Type 0} where
  pub where_good : Good → Where Good P Q → P
  where_good g (good h p) = p
  where_good g (bad n q) = absurd (n g)

  -- Not Q: then the condition holds.
  pub where_not : (Q → ⊥) → Where Good P Q → Good × P
  where_not never (good g p) = (g, p)
  where_not never (bad n q) = absurd (never q)

  pub where_map : {R S : Type 0} → (P → R) → (Q → S) → Where Good P Q → Where Good R S
  where_map f h (good g p) = good g (f p)
  where_map f h (bad n q) = bad n (h q)

  -- Two that go by the same condition go the same way.
  pub where_both : {R S X : Type 0} → (P → R → X) → (Q → S → X) → Where Good P Q → Where Good R S → X
  where_both f h (good a p) (good b r) = f p r
  where_both f h (good a p) (bad n s) = absurd (n a)
  where_both f h (bad n q) (good a r) = absurd (n a)
  where_both f h (bad n q) (bad m s) = h q s
