use Rattle.std.proofs.Common.{◌≡◌, ◌+◌, ◌*◌, ◌/◌, ◌<◌, ◌≤◌, length, refl, sym, ◌∙◌, arith}
use Rattle.graph_rows.specs.Held.{marked}
use Rattle.fail_account.proofs.Members.{members_off, off_members}
use Rattle.fail_account.proofs.Distinct.{path_few}
use Rattle.fail_account.proofs.HeldAccount.{in_row, place_inside}
use Rattle.fail_account.proofs.account.Account.is_refuted.Goals as goal

pub is_marked-requires : goal.is_marked-requires
is_marked-requires c =
    let i = c.self.inside in
    let t_in = rw (← c.self.view_is) at c.requires in
    let few : length i.path.items ≤ i.pattern = path_few i.pattern i.target i.path.items c.self.invariant.vertices c.self.invariant.range in
    let e : c.len.result ≡ length i.path.items = omega (arith, c.len.ensures, i.path.ok.0) in
    let place : length i.path.items * i.width + c.args.t / 64 < length i.words.items =
    place_inside i.pattern i.width (length i.words.items) (length i.path.items) c.args.t c.self.invariant.long few (in_row i.target i.width c.args.t c.self.invariant.width_is t_in) in
    record { inside = rw (e, c.from.ensures, c.deref.ensures.value) place }

pub returns : goal.returns
returns c =
    let i = c.self.inside in
    let t_in = rw (← c.self.view_is) at c.requires in
    let e : c.len.result ≡ length i.path.items = omega (arith, c.len.ensures, i.path.ok.0) in
    let is : c.is_marked.result ≡ marked i.words.items i.width (length i.path.items) c.args.t = c.is_marked.ensures ∙ (rw (e, c.from.ensures, c.deref.ensures.value) refl) in
    rw (← c.self.view_is) (
      (λ off. off_members (marked i.words.items i.width (length i.path.items)) i.target c.args.t (sym is ∙ off)),
      (λ off. is ∙ members_off (marked i.words.items i.width (length i.path.items)) i.target c.args.t t_in off),
    )
