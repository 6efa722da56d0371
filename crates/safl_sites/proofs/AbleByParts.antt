-- What a walk down a term requires of its parts.
use Rattle.safl_sites.proofs.Common.{Call, Cons, If, Keeping, Let, Loop, Op, Primitive, Program, SiteSet, Term, Terms, Var}
use Rattle.std.proofs.Common.{◌≡◌, ℕ, ◌+◌, ◌<◌, List, length, length-append, sym, subst, ap, arith}
use Rattle.std.proofs.lemmas.Option.{slice_get_within}
use Rattle.safl_sites.specs.Keeping.{MayKeep, MayKeepIn, Binds}
use Rattle.safl_sites.specs.Parts.{IsPart, terms_in}
use Rattle.safl_sites.proofs.PartsOfParts.{may_cond, may_then, may_else, may_bound, may_body, may_op, may_args, may_loop, may_first, may_rest}

module _ {C : Program} {units peers : List SiteSet} {n : ℕ} where
  pub keep_cond : {t c a b : Term} → t ≡ If c a b → MayKeep C units peers n t → MayKeep C units peers n c
  keep_cond e h = record { reach = may_cond e h.reach; sites = h.sites }

  pub keep_then : {t c a b : Term} → t ≡ If c a b → MayKeep C units peers n t → MayKeep C units peers n a
  keep_then e h = record { reach = may_then e h.reach; sites = h.sites }

  pub keep_else : {t c a b : Term} → t ≡ If c a b → MayKeep C units peers n t → MayKeep C units peers n b
  keep_else e h = record { reach = may_else e h.reach; sites = h.sites }

  pub keep_bound : {t b : Term} {ts : Terms} → t ≡ Let ts b → MayKeep C units peers n t → MayKeepIn C units peers n ts
  keep_bound e h = record { reach = may_bound e h.reach; sites = h.sites }

  pub keep_body : {t b : Term} {ts : Terms} → t ≡ Let ts b → MayKeep C units peers n t → MayKeep C units peers (n + terms_in ts) b
  keep_body e h = record { reach = may_body e h.reach; sites = h.sites }

  pub keep_op : {t : Term} {o : Primitive} {ts : Terms} → t ≡ Op o ts → MayKeep C units peers n t → MayKeepIn C units peers n ts
  keep_op e h = record { reach = may_op e h.reach; sites = h.sites }

  pub keep_args : {t : Term} {f k : ℕ} {ts : Terms} → t ≡ Call f k ts → MayKeep C units peers n t → MayKeepIn C units peers n ts
  keep_args e h = record { reach = may_args e h.reach; sites = h.sites }

  pub keep_loop : {t : Term} {f : ℕ} {ts : Terms} → t ≡ Loop f ts → MayKeep C units peers n t → MayKeepIn C units peers n ts
  keep_loop e h = record { reach = may_loop e h.reach; sites = h.sites }

  pub keep_first : {t : Term} {ts : Terms} → MayKeepIn C units peers n (Cons t ts) → MayKeep C units peers n t
  keep_first h = record { reach = may_first h.reach; sites = h.sites }

  pub keep_rest : {t : Term} {ts : Terms} → MayKeepIn C units peers n (Cons t ts) → MayKeepIn C units peers n ts
  keep_rest h = record { reach = may_rest h.reach; sites = h.sites }

  -- the same in as many slots
  pub keep_slots : {m : ℕ} {t : Term} → m ≡ n → MayKeep C units peers n t → MayKeep C units peers m t
  keep_slots {m} {t} e h = subst (λ (i : ℕ). MayKeep C units peers i t) (sym e) h

  pub keep_slots_in : {m : ℕ} {ts : Terms} → m ≡ n → MayKeepIn C units peers n ts → MayKeepIn C units peers m ts
  keep_slots_in {m} {ts} e h = subst (λ (i : ℕ). MayKeepIn C units peers i ts) (sym e) h

  pub slot_within : {t : Term} {i : ℕ} → t ≡ Var i → MayKeep C units peers n t → i < n
  slot_within {t} {i} e h = let p = subst (λ (x : Term). IsPart C h.reach.caller n x) e h.reach.part in omega (arith, slice_get_within p.scope i p.width p.typed, p.count)

pub bound_length : {C : Program} {R M : List SiteSet} {a b : Keeping} {ts : Terms} → Binds C R M a b ts → length M ≡ length R + terms_in ts
bound_length {C} {R} {M} {a} {b} {ts} h = omega (arith, ap length h.joined, length-append R h.bound, h.count)
