-- The number and the layer of each fault, and its line of text.
use Rattle.std.specs.Prelude.{ℕ, List, ◌++◌, codes, decimal}
use Rattle.fault.specs.declared.kinds.Layer.{Layer}
use Rattle.fault.specs.declared.kinds.Layer.TheVariants as layer
use Rattle.fault.specs.declared.kinds.KeyFault.{KeyFault}
use Rattle.fault.specs.declared.kinds.KeyFault.TheVariants.{Suite, Length}
use Rattle.fault.specs.declared.kinds.SessionFault.{SessionFault}
use Rattle.fault.specs.declared.kinds.SessionFault.TheVariants.{Key, Header, Body, Room, Empty, Tag}
use Rattle.fault.specs.declared.kinds.SessionFault.TheVariants.{Forged}
use Rattle.fault.specs.declared.kinds.SheetFault.{SheetFault}
use Rattle.fault.specs.declared.kinds.SheetFault.TheVariants as sheet
use Rattle.fault.specs.declared.kinds.ConsoleFault.{ConsoleFault}
use Rattle.fault.specs.declared.kinds.ConsoleFault.TheVariants as console

abbrev pub key_number : KeyFault → ℕ
key_number Suite = 2
key_number Length = 3

abbrev pub key_layer : KeyFault → Layer
key_layer k = layer.Key

abbrev pub number_of : SessionFault → ℕ
number_of (Key k) = key_number k
number_of Header = 4
number_of Body = 5
number_of Room = 6
number_of Empty = 7
number_of Tag = 8
number_of Forged = 9

abbrev pub layer_of : SessionFault → Layer
layer_of (Key k) = layer.Key
layer_of Header = layer.Session
layer_of Body = layer.Session
layer_of Room = layer.Session
layer_of Empty = layer.Session
layer_of Tag = layer.Session
layer_of Forged = layer.Session

abbrev pub sheet_number : SheetFault → ℕ
sheet_number (sheet.Session s) = number_of s
sheet_number sheet.Room = 6
sheet_number sheet.Cut = 10
sheet_number sheet.UnknownBit = 11
sheet_number sheet.Missing = 12
sheet_number sheet.Value = 13

abbrev pub sheet_layer : SheetFault → Layer
sheet_layer (sheet.Session s) = layer_of s
sheet_layer sheet.Room = layer.Sheet
sheet_layer sheet.Cut = layer.Sheet
sheet_layer sheet.UnknownBit = layer.Sheet
sheet_layer sheet.Missing = layer.Sheet
sheet_layer sheet.Value = layer.Sheet

abbrev pub console_number : ConsoleFault → ℕ
console_number (console.Sheet s) = sheet_number s
console_number console.Input = 1

abbrev pub console_layer : ConsoleFault → Layer
console_layer (console.Sheet s) = sheet_layer s
console_layer console.Input = layer.Console

abbrev pub layer_name : Layer → List ℕ
layer_name layer.Key = codes "key"
layer_name layer.Session = codes "session"
layer_name layer.Sheet = codes "sheet"
layer_name layer.Console = codes "console"

-- the line of a fault by its number and layer, and its place
abbrev pub shown_fault : (number : ℕ) → Layer → (place : ℕ) → List ℕ
shown_fault number layer place = codes "refused " ++ (decimal number ++ (codes " by the "
    ++ (layer_name layer ++ (codes " layer at " ++ decimal place))))
