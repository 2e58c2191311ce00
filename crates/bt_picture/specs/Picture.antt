-- What stands in a picture, and how it is spelled. All numbers are in twips, from the left and from the top.
use Rattle.std.specs.Prelude.{ℕ, ◌%◌, ◌/◌, ◌++◌, List, [], ◌∷◌, codes, decimal, flat_map}
use Rattle.bt_words.specs.declared.line.Word.{Word}
use Rattle.bt_words.specs.Lines.{word_bytes}
use Rattle.bt_picture.specs.declared.style.TheConstants.{FILLS, TINTS}
use Rattle.bt_picture.specs.declared.shape.TheConstants.{TWIPS}
use Rattle.bt_picture.specs.declared.style.Style.{Style}
use Rattle.bt_picture.specs.declared.style.Style.TheVariants as style
use Rattle.bt_picture.specs.declared.shape.Anchor.{Anchor}
use Rattle.bt_picture.specs.declared.shape.Anchor.TheVariants as anchor
use Rattle.bt_picture.specs.declared.shape.Point.{Point}
use Rattle.bt_picture.specs.declared.shape.Rect.{Rect}
use Rattle.bt_picture.specs.declared.shape.Shape as code
use Rattle.bt_picture.specs.declared.shape.Shape.TheVariants as code_shape
use Rattle.bt_picture.specs.Sheet.{sheet_text}

-- a shape at its place, in its style; a label has its text, and a cross the width of its square
pub data Shape : Type 0 where
  Rectangle : Rect → Style → Shape
  Line : Point → Point → Style → Shape
  Label : Point → Anchor → Style → List ℕ → Shape
  Cross : Point → ℕ → Style → Shape
  Dot : Point → ℕ → Style → Shape

-- a part of a picture: one shape, or shapes with a title, which stands beside the mouse while it points at one of them
pub data Part : Type 0 where
  Alone : Shape → Part
  Titled : List ℕ → List Shape → Part

-- a picture: its size, and its parts, of which each lies over those before it
pub record Picture : Type 0 where
  pub width : ℕ
  pub height : ℕ
  pub parts : List Part

-- words with nothing between them
abbrev pub words_text : List Word → List ℕ
words_text words = flat_map word_bytes words

-- the shape that the code writes
abbrev pub drawn : code.Shape → Shape
drawn (code_shape.Rectangle rect look) = Rectangle rect look
drawn (code_shape.Line from to look) = Line from to look
drawn (code_shape.Label at held look words) = Label at held look (words_text words.now)
drawn (code_shape.Cross at size look) = Cross at size look
drawn (code_shape.Dot at radius look) = Dot at radius look

-- the class of a style, without the number of a fill or a tint
abbrev pub class_name : Style → List ℕ
class_name (style.Fill number) = codes "f"
class_name (style.Tint number) = codes "t"
class_name style.Lane = codes "lane"
class_name style.Heavy = codes "heavy"
class_name style.Free = codes "free"
class_name style.Band = codes "band"
class_name style.Shade = codes "shade"
class_name style.Plate = codes "plate"
class_name style.Mark = codes "mark"
class_name style.Edge = codes "edge"
class_name style.Fault = codes "fault"
class_name style.Thin = codes "thin"
class_name style.Line = codes "line"
class_name style.Arrow = codes "arrow"
class_name style.Title = codes "title"
class_name style.Head = codes "head"
class_name style.Text = codes "text"
class_name style.Small = codes "small"

-- the number behind it: that of a fill or a tint, and else nothing
abbrev pub class_number : Style → List ℕ
class_number (style.Fill number) = decimal (number % FILLS)
class_number (style.Tint number) = decimal (number % TINTS)
class_number _ = []

-- the class of a style
abbrev pub class_of : Style → List ℕ
class_of look = class_name look ++ class_number look

-- some letters and a number
abbrev pub field : List ℕ → ℕ → List ℕ
field name number = name ++ decimal number

-- the opening of a shape up to its class
abbrev pub opening : List ℕ → Style → List ℕ
opening tag look = tag ++ class_of look

-- how each kind of shape is spelled
abbrev pub rectangle_text : Rect → Style → List ℕ
rectangle_text rect look = opening (codes "<rect class='") look ++ field (codes "' x='") rect.x ++ field (codes "' y='") rect.y ++ field (codes "' width='") rect.width ++ field (codes "' height='") rect.height ++ codes "'/>"

abbrev pub line_text : Point → Point → Style → List ℕ
line_text from to look = opening (codes "<line class='") look ++ field (codes "' x1='") from.x ++ field (codes "' y1='") from.y ++ field (codes "' x2='") to.x ++ field (codes "' y2='") to.y ++ codes "'/>"

-- what closes the opening of a label
abbrev pub anchor_text : Anchor → List ℕ
anchor_text anchor.Start = codes "'>"
anchor_text anchor.Middle = codes "' text-anchor='middle'>"
anchor_text anchor.End = codes "' text-anchor='end'>"

-- the letters of a label, and what closes it
abbrev pub letters_text : Anchor → List ℕ → List ℕ
letters_text held text = anchor_text held ++ text ++ codes "</text>"

abbrev pub label_text : Point → Anchor → Style → List ℕ → List ℕ
label_text at held look text = opening (codes "<text class='") look ++ field (codes "' x='") at.x ++ field (codes "' y='") at.y ++ letters_text held text

-- the two strokes of a cross of that width, and what closes it
abbrev pub strokes_text : ℕ → List ℕ
strokes_text size = field (codes "l") size ++ field (codes " ") size ++ field (codes "m0-") size ++ field (codes "l-") size ++ field (codes " ") size ++ codes "'/>"

abbrev pub cross_text : Point → ℕ → Style → List ℕ
cross_text at size look = opening (codes "<path class='") look ++ field (codes "' d='M") at.x ++ field (codes " ") at.y ++ strokes_text size

abbrev pub dot_text : Point → ℕ → Style → List ℕ
dot_text at radius look = opening (codes "<circle class='") look ++ field (codes "' cx='") at.x ++ field (codes "' cy='") at.y ++ field (codes "' r='") radius ++ codes "'/>"

-- how a shape is spelled
abbrev pub shape_text : Shape → List ℕ
shape_text (Rectangle rect look) = rectangle_text rect look
shape_text (Line from to look) = line_text from to look
shape_text (Label at held look text) = label_text at held look text
shape_text (Cross at size look) = cross_text at size look
shape_text (Dot at radius look) = dot_text at radius look

-- how a part is spelled: in a line of its own
abbrev pub part_text : Part → List ℕ
part_text (Alone shape) = shape_text shape ++ 10 ∷ []
part_text (Titled title shapes) = codes "<g><title>" ++ title ++ codes "</title>" ++ flat_map shape_text shapes ++ (codes "</g>" ++ 10 ∷ [])

-- the places that a picture of that size has
abbrev pub view_text : ℕ → ℕ → List ℕ
view_text width height = field (codes "' viewBox='0 0 ") width ++ field (codes " ") height ++ (codes "'>" ++ 10 ∷ [])

-- the opening of a picture of that size, which is as many pixels as whole ones fit in it
abbrev pub size_text : ℕ → ℕ → List ℕ
size_text width height = codes "<svg xmlns='http://www.w3.org/2000/svg'" ++ field (codes " width='") (width / TWIPS) ++ field (codes "' height='") (height / TWIPS) ++ view_text width height

-- what stands before the parts
abbrev pub head_text : ℕ → ℕ → List ℕ
head_text width height = size_text width height ++ sheet_text

-- what stands behind them
abbrev pub foot_text : List ℕ
foot_text = codes "</svg>" ++ 10 ∷ []

-- how a picture is spelled
abbrev pub picture_text : Picture → List ℕ
picture_text picture = head_text picture.width picture.height ++ flat_map part_text picture.parts ++ foot_text
