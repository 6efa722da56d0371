-- Bodies that are alike: functions may have other numbers, sites any, and calls of some sites are unfolded.
use Rattle.safl_reshape.proofs.Common.{Primitive, Program, Word, arity}
use Rattle.std.proofs.Common.{◌≡◌, ℕ, ◌+◌, Bool, true, false}
use Rattle.safl_term.specs.Terms.{Term, Const, Var, If, Let, Op, Call, Loop, Terms, Nil, Cons}
use Rattle.safl_term.specs.Slots.{count}

-- The first term stands in a body of C, and its function i is function j of the other where they are the same. The second
-- stands where n slots are seen, and has the first one's slots d further on. A call of a site that is unfolded is a let of
-- one binding, whose value is the callee's body under a let of the arguments, or the body alone where there are none
mutual
  pub data Alike (C : Program) (same : ℕ → ℕ → Type 0) (at : ℕ → Bool) : ℕ → ℕ → Term → Term → Type 0 where
    alike_const : {d n : ℕ} {w : Word} → Alike C same at d n (Const w) (Const w)
    alike_var : {d n i j : ℕ} → j ≡ d + i → Alike C same at d n (Var i) (Var j)
    alike_op : {d n : ℕ} {o : Primitive} {ts us : Terms} → AllAlike C same at d n ts us → Alike C same at d n (Op o ts) (Op o us)
    alike_if : {d n : ℕ} {c a b x y z : Term} → Alike C same at d n c x → Alike C same at d n a y → Alike C same at d n b z → Alike C same at d n (If c a b) (If x y z)
    alike_let : {d n : ℕ} {ts us : Terms} {b c : Term} → AllAlike C same at d n ts us → Alike C same at d (n + count ts) b c → Alike C same at d n (Let ts b) (Let us c)
    alike_call : {d n f g k l : ℕ} {ts us : Terms} → at k ≡ false → same f g → count ts ≡ arity C f → AllAlike C same at d n ts us → Alike C same at d n (Call f k ts) (Call g l us)
    alike_loop : {d n f g : ℕ} {ts us : Terms} → same f g → count ts ≡ arity C f → AllAlike C same at d n ts us → Alike C same at d n (Loop f ts) (Loop g us)
    alike_unfolded : {d n f k : ℕ} {ts us : Terms} {b : Term} → at k ≡ true → AllAlike C same at d n ts us → Alike C same at n (n + count ts)
        (C.body f) b → Alike C same at d n (Call f k ts) (Let (Cons (Let us b) Nil) (Var n))
    alike_bare : {d n f k : ℕ} {b : Term} → at k ≡ true → Alike C same at n n (C.body f) b → Alike C same at d n (Call f k Nil) (Let (Cons b Nil) (Var n))

  pub data AllAlike (C : Program) (same : ℕ → ℕ → Type 0) (at : ℕ → Bool) : ℕ → ℕ → Terms → Terms → Type 0 where
    none_alike : {d n : ℕ} → AllAlike C same at d n Nil Nil
    more_alike : {d n : ℕ} {t u : Term} {ts us : Terms} → Alike C same at d n t u → AllAlike C same at d n ts us → AllAlike C same at d n (Cons t ts) (Cons u us)
