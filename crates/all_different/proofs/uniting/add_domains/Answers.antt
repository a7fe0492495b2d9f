use Rattle.std.proofs.Common.{◌≡◌, Bool, true, false, ◌||◌, get_or, take, refl, sym, ap, ◌∙◌, arith}
use Rattle.std.proofs.lemmas.List.{take_more, take_all}
use Rattle.bit_rows.specs.BitRows.{has}
use Rattle.domain_bits.specs.Removals.{in_domain}
use Rattle.all_different.specs.Pruning.{in_one_of}
use Rattle.all_different.proofs.OneLook.{listed_more}
use Rattle.all_different.proofs.uniting.add_domains.Goals as goal

joined : (a b c : Bool) → ((a || b) || c) ≡ (a || (b || c))
joined true b c = refl
joined false b c = refl

alone : (a : Bool) → a ≡ (a || false)
alone true = refl
alone false = refl

pub loop-k-init : goal.loop-k-init
loop-k-init g c = record { long = c.requires.long; union = λ t. alone (has c.args.row.now t) }

pub loop-k-preserved : goal.loop-k-preserved
loop-k-preserved g c =
    let d = g.F.Family.state c.args.d.now in
    let list = c.args.list.now in
    let k = c.loop-k.k in
    record {
      long = c.add_domain.auto.row ∙ c.loop-k.invariant.long;
      union = λ t. c.add_domain.ensures t ∙ rw (c.loop-k.invariant.union t) (joined (has c.args.row.now t) (in_one_of d (take k list) t) (in_domain d (get_or list k 0) t))
          ∙ ap (λ b. has c.args.row.now t || b) (sym (ap (λ xs. in_one_of d xs t) (take_more list k 0 c.loop-k-test.true) ∙ listed_more d (take k list) (get_or list k 0) t));
    }

pub returns : goal.returns
returns g c t = c.loop-k.invariant.union t
    ∙ ap (λ xs. has c.args.row.now t || in_one_of (g.F.Family.state c.args.d.now) xs t) (take_all c.loop-k.k c.args.list.now (omega (arith, c.loop-k-test.false)))
