-- A commutative ring as a record of its operations and laws, and the laws on negatives that follow. ℤ (`Whole`) and the
-- power series (crate `series`) are two.
use Rattle.std.specs.Prelude.{◌≡◌}
use Rattle.std.proofs.Common.{sym, ◌∙◌, ap}

pub record Ring : Type 1 where
  pub Carrier : Type 0
  pub zero : Carrier
  pub one : Carrier
  pub add : Carrier → Carrier → Carrier
  pub mul : Carrier → Carrier → Carrier
  pub neg : Carrier → Carrier
  pub add_assoc : (a b c : Carrier) → add (add a b) c ≡ add a (add b c)
  pub add_comm : (a b : Carrier) → add a b ≡ add b a
  pub add-zero : (a : Carrier) → add a zero ≡ a
  pub add-neg : (a : Carrier) → add a (neg a) ≡ zero
  pub mul_assoc : (a b c : Carrier) → mul (mul a b) c ≡ mul a (mul b c)
  pub mul_comm : (a b : Carrier) → mul a b ≡ mul b a
  pub mul-one : (a : Carrier) → mul a one ≡ a
  pub mul-add : (a b c : Carrier) → mul a (add b c) ≡ add (mul a b) (mul a c)

module _ (R : Ring) where
  open R use {
    Carrier,
    zero,
    one,
    add,
    mul,
    neg,
    add_assoc,
    add_comm,
    add-zero,
    add-neg,
    mul_assoc,
    mul_comm,
    mul-one,
    mul-add,
  }

  pub zero-add : (a : Carrier) → add zero a ≡ a
  zero-add a = add_comm zero a ∙ add-zero a

  pub neg-add_self : (a b : Carrier) → add (neg a) (add a b) ≡ b
  neg-add_self a b = sym (add_assoc (neg a) a b) ∙ ap (λ x. add x b) (add_comm (neg a) a ∙ add-neg a) ∙ zero-add b

  pub add_cancel : (a b c : Carrier) → add a b ≡ add a c → b ≡ c
  add_cancel a b c e = sym (neg-add_self a b) ∙ ap (add (neg a)) e ∙ neg-add_self a c

  pub neg_unique : (a b : Carrier) → add a b ≡ zero → b ≡ neg a
  neg_unique a b e = add_cancel a b (neg a) (e ∙ sym (add-neg a))

  pub mul-zero : (a : Carrier) → mul a zero ≡ zero
  mul-zero a =
      add_cancel (mul a zero) (mul a zero) zero
      (sym (mul-add a zero zero) ∙ ap (mul a) (add-zero zero) ∙ sym (add-zero (mul a zero)))

  pub zero-mul : (a : Carrier) → mul zero a ≡ zero
  zero-mul a = mul_comm zero a ∙ mul-zero a

  pub neg-zero : neg zero ≡ zero
  neg-zero = sym (neg_unique zero zero (add-zero zero))

  pub neg-neg : (a : Carrier) → neg (neg a) ≡ a
  neg-neg a = sym (neg_unique (neg a) a (add_comm (neg a) a ∙ add-neg a))

  pub add_swap : (a b c d : Carrier) → add (add a b) (add c d) ≡ add (add a c) (add b d)
  add_swap a b c d =
      add_assoc a b (add c d)
      ∙ ap (add a) (sym (add_assoc b c d) ∙ ap (λ x. add x d) (add_comm b c) ∙ add_assoc c b d)
      ∙ sym (add_assoc a c (add b d))

  pub neg-add : (a b : Carrier) → neg (add a b) ≡ add (neg a) (neg b)
  neg-add a b =
      sym
      (neg_unique (add a b) (add (neg a) (neg b))
      (add_swap a b (neg a) (neg b) ∙ ap (λ x. add x (add b (neg b))) (add-neg a) ∙ zero-add (add b (neg b))
      ∙ add-neg b))

  pub mul-neg : (a b : Carrier) → mul a (neg b) ≡ neg (mul a b)
  mul-neg a b = neg_unique (mul a b) (mul a (neg b)) (sym (mul-add a b (neg b)) ∙ ap (mul a) (add-neg b) ∙ mul-zero a)

  pub neg-mul : (a b : Carrier) → mul (neg a) b ≡ neg (mul a b)
  neg-mul a b = mul_comm (neg a) b ∙ mul-neg b a ∙ ap neg (mul_comm b a)

  pub add-mul : (a b c : Carrier) → mul (add a b) c ≡ add (mul a c) (mul b c)
  add-mul a b c = mul_comm (add a b) c ∙ mul-add c a b ∙ ap (λ x. add x (mul c b)) (mul_comm c a)
      ∙ ap (add (mul a c)) (mul_comm c b)

  pub mul_swap : (a b c d : Carrier) → mul (mul a b) (mul c d) ≡ mul (mul a c) (mul b d)
  mul_swap a b c d =
      mul_assoc a b (mul c d)
      ∙ ap (mul a) (sym (mul_assoc b c d) ∙ ap (λ x. mul x d) (mul_comm b c) ∙ mul_assoc c b d)
      ∙ sym (mul_assoc a c (mul b d))

  pub mul_left_comm : (a b c : Carrier) → mul a (mul b c) ≡ mul b (mul a c)
  mul_left_comm a b c = sym (mul_assoc a b c) ∙ ap (λ x. mul x c) (mul_comm a b) ∙ mul_assoc b a c
