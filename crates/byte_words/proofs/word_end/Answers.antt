use Rattle.std.proofs.Common.{◌≡◌, ℕ, length, subst, refl, arith}
use Rattle.byte_words.proofs.WordEnds.{AreInWord, AreInWord-more, words-before_blank, words-before_end}
use Rattle.byte_words.proofs.word_end.Goals as goal

pub returns-then-is_blank-clause-word : goal.returns-then-is_blank-clause-word
returns-then-is_blank-clause-word g c =
    let e = c.is_blank.ensures in
    words-before_blank g.B.Blanks.blank c.loop-i.i c.args.text.now c.requires c.loop-i.invariant (omega arith) cc

pub loop-i-preserved : goal.loop-i-preserved
loop-i-preserved g c =
    let e = c.is_blank.ensures in
    AreInWord-more g.B.Blanks.blank c.loop-i.i c.args.text.now c.loop-i.invariant (omega arith) cc

pub returns-clause-word : goal.returns-clause-word
returns-clause-word g c =
    words-before_end g.B.Blanks.blank (length c.args.text.now) c.args.text.now c.requires
    (subst (λ (i : ℕ). AreInWord g.B.Blanks.blank i c.args.text.now) (let d : c.loop-i.i ≡ length c.args.text.now = omega arith in d) c.loop-i.invariant) refl
