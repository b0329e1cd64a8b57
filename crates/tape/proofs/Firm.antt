-- How firm each public statement is: any two outcomes that it allows coincide, as specs/Firm.antt says.
use mathlib.Core.Path.{sym, ap, ◌∙◌}
use Rattle.tape.specs.Pieces.{Player}
use Rattle.tape.specs.Firm.{OneLine, OneShown, OnePlay, OnePiece}

pub one_line : OneLine
one_line before at text v w m n h k = (h.bytes ∙ sym k.bytes, h.place ∙ sym k.place)

pub one_shown : OneShown
one_shown line v w h k = h.text ∙ sym k.text

pub one_play : OnePlay
one_play ws i v w x y h k = (h.table ∙ sym k.table, h.text ∙ sym k.text)

pub one_piece : OnePiece
one_piece p words₀ bodies₀ out₀ piece last q r v w x y m n h k =
    let e = h.played ∙ sym k.played in
    (ap (λ (g : Player). g.at) e, ap (λ (g : Player). g.words) e, ap (λ (g : Player). g.bodies) e, ap (λ (g : Player). g.out) e)
