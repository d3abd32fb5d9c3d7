-- A buffer with its output in front and zeros behind.
use Rattle.std.proofs.Common.{◌≡◌, ℕ, ◌-◌, List, length, take, replicate, Ok, sym, ap, ◌∙◌, subst}
use Rattle.std.proofs.lemmas.List.{take_at}
use Rattle.play.specs.Output.{Prints, Filled}

-- the front of a filled buffer is what is printed
pub front_printed : (text s u v : List ℕ) (n : ℕ) → Filled text s (Ok n) u → v ≡ take n u → Prints text v
front_printed text s u v n f e =
    let z = replicate (length s - n) 0 in
    let h : v ≡ f.0 = e ∙ ap (take n) f.3 ∙ take_at f.0 z n f.2 in subst (Prints text) (sym h) f.1
