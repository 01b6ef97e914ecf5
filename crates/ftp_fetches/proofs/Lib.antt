mod Fits
mod OneResult
mod Silence
