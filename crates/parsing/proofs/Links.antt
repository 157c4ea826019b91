-- Two links are the same exactly if their numbers are.
use mathlib.Core.Path.{◌≡◌, refl}
use denote.Enum.Bare.{sameb}
use lib.Dec.{eqb}
use Rattle.packet.specs.contracts.Link.{the_type}
use Rattle.packet.specs.declared.Link.{Link}
use Rattle.packet.specs.declared.Link.TheVariants.{Between, Last, First, System}
use Rattle.packet.specs.Packets.{link_number}

pub same-link : (l k : Link) → sameb the_type l k ≡ eqb (link_number l) (link_number k)
unfolding link_number
same-link Between Between = refl
same-link Between Last = refl
same-link Between First = refl
same-link Between System = refl
same-link Last Between = refl
same-link Last Last = refl
same-link Last First = refl
same-link Last System = refl
same-link First Between = refl
same-link First Last = refl
same-link First First = refl
same-link First System = refl
same-link System Between = refl
same-link System Last = refl
same-link System First = refl
same-link System System = refl

pub same_first : (l : Link) → sameb the_type l First ≡ eqb (link_number l) 2
unfolding link_number
same_first l = same-link l First

pub same_system : (l : Link) → sameb the_type l System ≡ eqb (link_number l) 3
unfolding link_number
same_system l = same-link l System
