use Rattle.std.proofs.Common.{◌≡◌, ℕ, suc, ◌<◌, ◌++◌, false, List, length, take, drop, get_or, arith, sym, ◌∙◌, ap, subst}
use Rattle.std.proofs.Math.Seq.{take-append_seam}
use Rattle.safl_sites.specs.declared.site_set.SiteSet.{SiteSet}
use Rattle.safl_sites.specs.Planned.{Flags, BeforeTable}
use Rattle.safl_sites.specs.SiteSets.{has}
use Rattle.safl_sites.proofs.TablesDecide.{plan_is}
use Rattle.safl_sites.proofs.planning.find.Goals as goal

pub overflow_add-sites : goal.overflow_add-sites
overflow_add-sites c = omega (arith, c.sites.ensures.most)

pub listed-requires : goal.listed-requires
listed-requires c = omega (arith, c.sites.ensures.most)

pub returns : goal.returns
returns c =
    let p = c.args.c.now in
    let C = p.program in
    let filled = c.in_ok-bodies.ensures in
    let sets = c.spread.new.sets in
    let old = c.in_ok-bodies.field-0.after in
    let long : old.len ≡ length sets = omega (arith, old.ok.0) in
    let same : take old.len (sets ++ drop (length sets) old.items) ≡ sets = ap (λ n. take n (sets ++ drop (length sets) old.items)) long ∙ take-append_seam sets (drop (length sets) old.items) in
    let flags : Flags = record { arbiters = c.in_ok-arbiters.arbiters.items; keeps = c.in_ok-keeps.keeps.items } in
    let all = c.keep_all.new.kept in
    let listed : (k : ℕ) → k < suc C.sites → get_or flags.keeps k false ≡ has all k = λ k less. c.in_ok-keeps.ensures.items k (omega (arith, c.sites.ensures.count)) in
    record {
      checked = c.sites.ensures.checked;
      reach = record { count = filled.bodies_count; sets = λ f k within. filled.body_sets f k within };
      conflicts = subst (λ (l : List SiteSet). BeforeTable C l) (sym same) c.in_ok-spread.ensures;
      units = c.in_ok-arbiters.ensures.count;
      sites = omega (arith, c.in_ok-keeps.ensures.count, c.sites.ensures.count);
      plan = plan_is p c.sites.ensures.checked flags c.collect.new.kept all c.in_ok-arbiters.ensures c.in_ok-keep_all.ensures listed;
    }
