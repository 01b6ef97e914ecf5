mod Classes
mod Cutting
mod Ends
mod HeadTexts
mod Parts
mod Streams
mod Within
mod WorkedRows
