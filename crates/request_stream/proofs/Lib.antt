mod OneRequest
mod Streams
mod ResponseTexts
mod HeadParts
