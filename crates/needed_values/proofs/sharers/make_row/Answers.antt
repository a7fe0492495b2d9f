use Rattle.std.proofs.Common.{◌≡◌, ℕ, ◌<◌, ◌≤◌, ◌==◌, ◌&&◌, not, nat_lt, slice_index, Bool, length, List, sym, ap, subst, ◌∙◌}
use Rattle.std.specs.Vec.{with_items}
use Rattle.std.proofs.lemmas.List.{with_items_is}
use Rattle.std.proofs.lemmas.Result.{IfOk-from_err}
use Rattle.graph_theory.specs.Graph.{size}
use Rattle.bit_rows.specs.BitRows.{has, words_for}
use Rattle.needed_values.proofs.Agreeing.{row_short, row_room, row_counted, vertex_in_row}
use Rattle.needed_values.proofs.Sharing.{others_within, sharer_bits}
use Rattle.needed_values.proofs.sharers.make_row.Goals as goal

pub returns-in_err-words : goal.returns-in_err-words
returns-in_err-words c = IfOk-from_err _ _ c.from_residual.ensures.0

pub fill_below-requires : goal.fill_below-requires
fill_below-requires c =
    let first : length c.deref_mut.result.now ≡ words_for c.from-values.result = ap length c.deref_mut.ensures.value ∙ sym c.in_ok-words.words.ok.0 ∙ c.in_ok-words.ensures.len ∙ c.words_for.ensures in
    row_room _ _ first

pub unset_bit-requires : goal.unset_bit-requires
unset_bit-requires c =
    let values : c.from-values.result ≡ size c.args.target.now = c.from-values.ensures ∙ c.size.ensures.size in
    let first : length c.deref_mut.result.now ≡ words_for c.from-values.result = ap length c.deref_mut.ensures.value ∙ sym c.in_ok-words.words.ok.0 ∙ c.in_ok-words.ensures.len ∙ c.words_for.ensures in
    let second : c.deref_mut-2.result.now ≡ c.fill_below.new.row = c.deref_mut-2.ensures.value ∙ with_items_is c.in_ok-words.words c.fill_below.new.row (c.fill_below.auto.row ∙ ap length c.deref_mut.ensures.value ∙ sym c.in_ok-words.words.ok.0) in
    vertex_in_row _ _ _ (subst (λ (n : ℕ). n < c.from-values.result) (sym c.from.ensures) (subst (λ (n : ℕ). c.args.t < n) (sym values) c.requires.t_in)) (ap length second ∙ c.fill_below.auto.row ∙ first)

pub keep_counted-requires-clause-short : goal.keep_counted-requires-clause-short
keep_counted-requires-clause-short c =
    let few : c.from-values.result ≤ 8192 = subst (λ (n : ℕ). n ≤ 8192) (sym c.from-values.ensures) c.size.ensures.few in
    let first : length c.deref_mut.result.now ≡ words_for c.from-values.result = ap length c.deref_mut.ensures.value ∙ sym c.in_ok-words.words.ok.0 ∙ c.in_ok-words.ensures.len ∙ c.words_for.ensures in
    let second : c.deref_mut-2.result.now ≡ c.fill_below.new.row = c.deref_mut-2.ensures.value ∙ with_items_is c.in_ok-words.words c.fill_below.new.row (c.fill_below.auto.row ∙ ap length c.deref_mut.ensures.value ∙ sym c.in_ok-words.words.ok.0) in
    let third : c.deref_mut-3.result.now ≡ c.unset_bit.new.row = c.deref_mut-3.ensures.value ∙ with_items_is (with_items c.in_ok-words.words c.fill_below.new.row) c.unset_bit.new.row (c.unset_bit.auto.row ∙ ap length second ∙ c.fill_below.auto.row ∙ ap length c.deref_mut.ensures.value ∙ sym c.in_ok-words.words.ok.0) in
    row_short _ _ few (ap length third ∙ c.unset_bit.auto.row ∙ ap length second ∙ c.fill_below.auto.row ∙ first)

pub keep_counted-requires-clause-long : goal.keep_counted-requires-clause-long
keep_counted-requires-clause-long c =
    let values : c.from-values.result ≡ size c.args.target.now = c.from-values.ensures ∙ c.size.ensures.size in
    let first : length c.deref_mut.result.now ≡ words_for c.from-values.result = ap length c.deref_mut.ensures.value ∙ sym c.in_ok-words.words.ok.0 ∙ c.in_ok-words.ensures.len ∙ c.words_for.ensures in
    let second : c.deref_mut-2.result.now ≡ c.fill_below.new.row = c.deref_mut-2.ensures.value ∙ with_items_is c.in_ok-words.words c.fill_below.new.row (c.fill_below.auto.row ∙ ap length c.deref_mut.ensures.value ∙ sym c.in_ok-words.words.ok.0) in
    let third : c.deref_mut-3.result.now ≡ c.unset_bit.new.row = c.deref_mut-3.ensures.value ∙ with_items_is (with_items c.in_ok-words.words c.fill_below.new.row) c.unset_bit.new.row (c.unset_bit.auto.row ∙ ap length second ∙ c.fill_below.auto.row ∙ ap length c.deref_mut.ensures.value ∙ sym c.in_ok-words.words.ok.0) in
    row_counted _ _ _ (ap length third ∙ c.unset_bit.auto.row ∙ ap length second ∙ c.fill_below.auto.row ∙ first) (c.requires.counts.long ∙ sym values)

pub keep_counted-requires-clause-within : goal.keep_counted-requires-clause-within
keep_counted-requires-clause-within c =
    let values : c.from-values.result ≡ size c.args.target.now = c.from-values.ensures ∙ c.size.ensures.size in
    let second : c.deref_mut-2.result.now ≡ c.fill_below.new.row = c.deref_mut-2.ensures.value ∙ with_items_is c.in_ok-words.words c.fill_below.new.row (c.fill_below.auto.row ∙ ap length c.deref_mut.ensures.value ∙ sym c.in_ok-words.words.ok.0) in
    let third : c.deref_mut-3.result.now ≡ c.unset_bit.new.row = c.deref_mut-3.ensures.value ∙ with_items_is (with_items c.in_ok-words.words c.fill_below.new.row) c.unset_bit.new.row (c.unset_bit.auto.row ∙ ap length second ∙ c.fill_below.auto.row ∙ ap length c.deref_mut.ensures.value ∙ sym c.in_ok-words.words.ok.0) in
    λ v h. others_within c.args.target.now c.args.t c.from-values.result c.args.counts.now c.fill_below.new.row c.unset_bit.new.row values c.requires.counts c.fill_below.ensures
    (λ v. c.unset_bit.ensures v ∙ ap (λ (b : Bool). b && not (c.from.result == v)) (ap (λ (row : List ℕ). has row v) second) ∙ ap (λ (x : ℕ). has c.fill_below.new.row v && not (x == v)) c.from.ensures) v (ap (λ (row : List ℕ). has row v) (sym third) ∙ h)

pub returns : goal.returns
returns c =
    let values : c.from-values.result ≡ size c.args.target.now = c.from-values.ensures ∙ c.size.ensures.size in
    let first : length c.deref_mut.result.now ≡ words_for c.from-values.result = ap length c.deref_mut.ensures.value ∙ sym c.in_ok-words.words.ok.0 ∙ c.in_ok-words.ensures.len ∙ c.words_for.ensures in
    let second : c.deref_mut-2.result.now ≡ c.fill_below.new.row = c.deref_mut-2.ensures.value ∙ with_items_is c.in_ok-words.words c.fill_below.new.row (c.fill_below.auto.row ∙ ap length c.deref_mut.ensures.value ∙ sym c.in_ok-words.words.ok.0) in
    let third : c.deref_mut-3.result.now ≡ c.unset_bit.new.row = c.deref_mut-3.ensures.value ∙ with_items_is (with_items c.in_ok-words.words c.fill_below.new.row) c.unset_bit.new.row (c.unset_bit.auto.row ∙ ap length second ∙ c.fill_below.auto.row ∙ ap length c.deref_mut.ensures.value ∙ sym c.in_ok-words.words.ok.0) in
    let last = with_items_is (with_items (with_items c.in_ok-words.words c.fill_below.new.row) c.unset_bit.new.row) c.keep_counted.new.row (c.keep_counted.auto.row ∙ ap length third ∙ c.unset_bit.auto.row ∙ ap length second ∙ c.fill_below.auto.row ∙ ap length c.deref_mut.ensures.value ∙ sym c.in_ok-words.words.ok.0) in
    record {
      long = ap length last ∙ c.keep_counted.auto.row ∙ (ap length third ∙ c.unset_bit.auto.row ∙ ap length second ∙ c.fill_below.auto.row ∙ first) ∙ ap words_for values;
      bits = λ u. ap (λ (row : List ℕ). has row u) last ∙ sharer_bits c.args.target.now c.args.t c.from-values.result c.args.counts.now c.fill_below.new.row c.unset_bit.new.row values c.requires.counts c.fill_below.ensures
          (λ v. c.unset_bit.ensures v ∙ ap (λ (b : Bool). b && not (c.from.result == v)) (ap (λ (row : List ℕ). has row v) second) ∙ ap (λ (x : ℕ). has c.fill_below.new.row v && not (x == v)) c.from.ensures) c.args.least c.keep_counted.new.row (λ v. c.keep_counted.ensures v ∙ ap (λ (row : List ℕ). has row v && not (nat_lt (slice_index c.args.counts.now v) c.args.least)) third) u;
    }
